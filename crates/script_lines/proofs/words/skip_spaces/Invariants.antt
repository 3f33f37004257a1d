use Rattle.script_lines.proofs.Names.{length, words, ◌≡◌, ◌≤◌}
use Rattle.script_lines.proofs.words.skip_spaces.Given as goal

abbrev pub invariant-loop-left : goal.invariant-loop-left
invariant-loop-left l = record { same : words l.left ≡ words l.bytes; shorter : length l.left ≤ length l.bytes }

abbrev pub decreases-loop-left : goal.decreases-loop-left
decreases-loop-left l = length l.left
