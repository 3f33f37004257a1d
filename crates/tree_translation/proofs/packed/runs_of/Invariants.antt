use Rattle.tree_translation.proofs.Names.{drop, runs_from, ◌++◌, ◌≡◌}
use Rattle.tree_translation.proofs.packed.runs_of.Given as goal

-- the runs that are left make them all
abbrev pub invariant-loop-place : goal.invariant-loop-place
invariant-loop-place l = l.runs.items ++ runs_from l.place (drop l.place l.numbers) ≡ runs_from 0 l.numbers
