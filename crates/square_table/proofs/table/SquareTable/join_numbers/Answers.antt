use Rattle.square_table.proofs.Names.{Grows, arith, inl, inr, subst, sym}
use Rattle.square_table.proofs.Noted.{seen-push}
use Rattle.square_table.proofs.Shared.Growth.{Grows-more, Grows-same}
use Rattle.square_table.proofs.table.SquareTable.join_numbers.Goals as goal

pub returns-in_ok-append-in-Err-clause-one : goal.returns-in_ok-append-in-Err-clause-one
returns-in_ok-append-in-Err-clause-one c =
    let t = c.args.self.now in
    let row = c.in_ok-row-in-Err.row in
    inr (grind (
      arith,
      seen-push t c.self.inside.rows.items row c.self.inside.limit c.args.kids,
      c.self.view_is,
      c.make_ready.ensures,
      c.if-count-self.false,
      c.len-count.ensures,
      c.in_ok-row-in-Err.ensures,
      c.new.ensures,
      c.in_ok-append-in-Err.ensures,
    ))

pub returns-in_ok-append-in-Err-clause-grows : goal.returns-in_ok-append-in-Err-clause-grows
returns-in_ok-append-in-Err-clause-grows c =
    let t = c.args.self.now in
    elim (returns-in_ok-append-in-Err-clause-one c) [
      | inl same ↦ subst (Grows t) (sym same) (Grows-same t)
      | inr more ↦ subst (Grows t) (sym more) (Grows-more t c.args.kids)
    ]
