use Rattle.std.proofs.Common.{◌≡◌, ◌++◌, take}
use Rattle.decision_tree.proofs.entry.add_entries.Given as goal

abbrev pub invariant-loop-number : goal.invariant-loop-number
invariant-loop-number l = l.entries.items ≡ l.initial.entries.items ++ take l.number-index l.numbers
