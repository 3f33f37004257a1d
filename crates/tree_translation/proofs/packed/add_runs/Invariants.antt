use Rattle.tree_translation.proofs.Names.{drop, length, spread_from, ◌++◌, ◌-◌, ◌≡◌, ◌≤◌}
use Rattle.tree_translation.proofs.packed.add_runs.Given as goal

-- the numbers of the runs that are left make them all
abbrev pub invariant-loop-run : goal.invariant-loop-run
invariant-loop-run l = record {
  start : l.start ≡ length l.initial.numbers.items;
  far : l.start ≤ length l.numbers.items;
  rest : l.numbers.items ++ spread_from (length l.numbers.items - l.start) (drop l.run-index l.runs) ≡ l.initial.numbers.items ++ spread_from 0 l.runs;
}
