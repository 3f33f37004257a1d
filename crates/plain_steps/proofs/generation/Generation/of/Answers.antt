use Rattle.plain_steps.proofs.Names.{ap, blank, cell, lay, live, map, of_cell, ◌∙◌, ◌≡◌}
use Rattle.plain_steps.proofs.Mentions.{set_of, sets_by_place}
use Rattle.plain_steps.proofs.Rooms.{held_with_room}
use Rattle.plain_steps.proofs.Together.{inside_sets, lay-sets, together-sets}
use Rattle.plain_steps.proofs.generation.Generation.of.Goals as goal
use Rattle.plain_steps.proofs.generation.Generation.of.Goals.{In_ok-cells-in-Some}

-- the cells that are laid are the plane's live ones
laid : (c : In_ok-cells-in-Some) → c.in_ok-cells-in-Some.cells.items ≡ map set_of (live c.args.plane.now)
laid c = c.in_ok-cells-in-Some.ensures.items ∙ sets_by_place c.deref.result.now ∙ ap (map set_of) (ap (map of_cell) c.deref.ensures.value ∙ (rw c.in-Some.is at c.in_ok-live.ensures.few).1)

pub patch_around-patch-requires : goal.patch_around-patch-requires
patch_around-patch-requires c = inside_sets c.args.plane.now _ (c.deref-in-Some.ensures.value ∙ laid (goal.at.patch_around-patch-requires c).In_ok-cells-in-Some) 1 c.requires

pub invariant_of-result : goal.invariant_of-result
invariant_of-result c =
    let cells = c.in_ok-cells-in-Some.cells.items in
    together-sets c.args.plane.now cells (laid (goal.at.invariant_of-result c).In_ok-cells-in-Some) c.set_all.new.patch c.in_ok-cells-in-Some.ensures.states
    (held_with_room c.patch_around-patch.result.level c.set_all.new.patch.level c.deref-in-Some.result.now cells c.patch_around-patch.ensures.room c.deref-in-Some.ensures.value c.in_ok-set_all-in-Some.ensures.level)
    (λ x y. c.in_ok-set_all-in-Some.ensures.states x y ∙ ap (λ ds. cell (lay ds blank) x y) c.deref-in-Some-2.ensures.value)

pub returns-in_ok-set_all-in-Some : goal.returns-in_ok-set_all-in-Some
returns-in_ok-set_all-in-Some c = lay-sets c.args.plane.now c.in_ok-cells-in-Some.cells.items (laid (goal.at.returns-in_ok-set_all-in-Some c).In_ok-cells-in-Some)
