use Rattle.square_table.proofs.Names.{List, Row, ap, arith, kids_in, kids_of, subst, without_notes, ◌∙◌, ◌≡◌}
use Rattle.square_table.proofs.Noted.{seen, seen-none, whole, same_length}
use Rattle.square_table.proofs.table.SquareTable.forget_notes.Goals as goal

pub returns : goal.returns
returns c =
    let rows = c.self.inside.rows in
    let new = c.forget.new.rows in
    let limit = c.self.inside.limit in
    let changed : seen new limit ≡ without_notes c.args.self.now =
    grind (arith, seen-none c.args.self.now rows.items new limit, c.self.view_is, c.self.invariant, c.deref_mut.ensures.value, c.forget.ensures) in
    let long = same_length kids_in new rows.items (c.forget.ensures.kids ∙ ap kids_of c.deref_mut.ensures.value) in
    subst (λ (items : List Row). seen items limit ≡ without_notes c.args.self.now) (whole rows.len new rows.items rows.ok.0 long) changed
