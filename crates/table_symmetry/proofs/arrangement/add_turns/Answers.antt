use Rattle.table_symmetry.proofs.Names.{List, length, same_sets, take_rest, ℕ, ◌*◌, ◌/◌}
use Rattle.table_symmetry.specs.Circle as maps
use Rattle.table_symmetry.proofs.Arranged.{same_sets_decides}
use Rattle.table_symmetry.proofs.Distinct.{with_all-next}
use Rattle.table_symmetry.proofs.arrangement.add_turns.Goals as goal

pub loop-turn-preserved : goal.loop-turn-preserved
loop-turn-preserved c =
    let circle = c.args.circle.now in
    let at : ℕ → List (List ℕ) = λ i. maps.turned (i * (length circle / c.args.count)) circle in
    let joined = rw (take_rest circle (c.loop-turn.turn * (length circle / c.args.count))) at c.in_ok-joined.ensures in
    rw (with_all-next same_sets same_sets_decides _ at c.loop-turn.turn, ← c.loop-turn.invariant, ← joined) c.in_ok-add_other.ensures
