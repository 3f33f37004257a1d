use Rattle.std.proofs.Common.{◌≡◌, take}
use Rattle.decision_tree.proofs.entries.narrowed.Given as goal

abbrev pub invariant-loop-entry : goal.invariant-loop-entry
invariant-loop-entry l = l.numbers.items ≡ take l.entry-index l.entries
