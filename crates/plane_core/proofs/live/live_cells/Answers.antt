use Rattle.plane_core.proofs.Names.{Holds, answers_always, arith, ints, place_of, rules, world_of_rows}
use Rattle.plane_core.proofs.Shared.Roots.{margin}
use Rattle.plane_core.proofs.Entries.{in_order}
use Rattle.plane_core.proofs.live.live_cells.Goals as goal

pub returns : goal.returns
returns c =
    let rows = c.args.rows.now in
    let holds : Holds _ (world_of_rows rows) = λ x y live.
    let at = margin rows c.requires.rows x y live in
    let left = at.left in let right = at.right in let top = at.top in let bottom = at.bottom in
    record { left = omega (arith, ints); right = omega (arith, ints); top = omega (arith, ints); bottom = omega (arith, ints) } in
    in_order _ (world_of_rows rows) c.in_ok-cells.cells.items _ holds c.in_ok-cells.ensures c.sort_unstable_by_key.ensures.permutation
    (c.sort_unstable_by_key.ensures.sorted place_of (answers_always _ _ _ (λ f a r g h. search rules)))
