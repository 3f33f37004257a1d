use Rattle.table_symmetry.proofs.Names.{List, drop, same_sets, take, ℕ, ◌++◌, ◌∷◌}
use Rattle.table_symmetry.proofs.Arranged.{same_sets_decides}
use Rattle.table_symmetry.proofs.Distinct.{with_all-next}
use Rattle.table_symmetry.proofs.arrangement.add_insertions.Goals as goal

pub loop-place-preserved : goal.loop-place-preserved
loop-place-preserved c =
    let at : ℕ → List (List ℕ) = λ i. take i c.args.list.now ++ c.args.set ∷ drop i c.args.list.now in
    rw (with_all-next same_sets same_sets_decides _ at c.loop-place.place, ← c.loop-place.invariant, ← c.in_ok-inserted.ensures) c.in_ok-add_new.ensures
