use Rattle.std.proofs.Common.{take}
use Rattle.script_lines.proofs.Splitting.{NoSpace}
use Rattle.script_lines.proofs.words.word_len.Given as goal

abbrev pub invariant-loop-i : goal.invariant-loop-i
invariant-loop-i l = NoSpace (take l.i l.bytes)
