use Rattle.square_tree.proofs.Names.{Cells, ap, arith, ints, least, place_cmp, pos, put, ℕ, ◌+ℤ◌, ◌∙◌, ◌≡◌}
use Rattle.std.specs.FinMap as finite
use Rattle.square_tree.proofs.Covered.{on_ok}
use Rattle.square_tree.proofs.Mapped.{states_of-set}
use Rattle.square_tree.proofs.patch.Patch.set.Goals as goal

pub returns-clause-ok : goal.returns-clause-ok
returns-clause-ok g c =
    let level = c.self.inside.level in
    let column : c.args.x ≡ (least level +ℤ pos c.offset-column.result) = let e = c.offset-column.ensures.place in omega (arith, ints, e) in
    let row : c.args.y ≡ (least level +ℤ pos c.offset-row.result) = let e = c.offset-row.ensures.place in omega (arith, ints, e) in
    let cells : finite.FinMap place_cmp ℕ → Cells = λ m. record { level = level; states = m } in
    on_ok _ c.set.ensures.ok (λ set.
    ap cells (states_of-set c.args.x c.args.y set c.self.invariant.1 column row)
    ∙ ap (λ (v : Cells). put v c.args.x c.args.y c.args.state) c.self.view_is)
