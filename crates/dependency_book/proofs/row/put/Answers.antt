use Rattle.dependency_book.proofs.Names.{IsAt, Row, ap, by_key, get_or, row_at, set, stands, subst, sym, ◌∙◌}
use Rattle.dependency_book.proofs.Standing.{put_absent, put_there}
use Rattle.dependency_book.proofs.row.put.Goals as goal

pub returns-in-Some : goal.returns-in-Some
returns-in-Some g c =
    let rank = g.K.Key.rank in
    let n = c.args.rank in
    let rows = c.args.rows.now.items in
    let k = c.in-Some.place in
    let x = c.index_mut.result.now in
    let at : IsAt (by_key rank) n rows k =
    subst (λ ys. IsAt (by_key rank) n ys k) c.deref.ensures.value c.in-Some.ensures in
    ap (λ (r : Row g.row.K.Denot g.row.V.Denot). set rows k (record { key = r.key; state = c.args.state }))
    c.index_mut.ensures.value
    ∙ put_there rank n c.args.state rows k x c.requires at.0
    (stands (by_key rank) n rows (get_or rows k x) c.requires (at.1 x)).ranked

pub returns-in_default : goal.returns-in_default
returns-in_default g c =
    let rank = g.K.Key.rank in
    let rows = c.args.rows.now.items in
    sym (put_absent rank c.args.rank c.args.state rows
    (ap (row_at (by_key rank) c.args.rank) (sym c.deref.ensures.value) ∙ c.in_default.ensures))
