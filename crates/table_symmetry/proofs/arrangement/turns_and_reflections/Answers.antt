use Rattle.table_symmetry.proofs.Names.{same_sets, ◌∙◌}
use Rattle.table_symmetry.specs.Circle as maps
use Rattle.table_symmetry.proofs.Arranged.{same_sets_decides}
use Rattle.table_symmetry.proofs.Distinct.{with_all-distinct}
use Rattle.table_symmetry.proofs.arrangement.turns_and_reflections.Goals as goal

pub returns : goal.returns
returns c =
    rw (c.deref.ensures.value, c.in_ok-image.ensures, c.in_ok-lists.ensures) at c.in_ok-add_turns.ensures
    ∙ with_all-distinct same_sets same_sets_decides (maps.turns c.args.count c.args.circle.now) (maps.turns c.args.count (maps.mirrored c.args.circle.now))
