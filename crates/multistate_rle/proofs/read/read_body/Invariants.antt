use Rattle.std.proofs.Common.{length}
use Rattle.multistate_rle.proofs.Drawings.{IsBegun}
use Rattle.multistate_rle.proofs.read.read_body.Given as goal

abbrev pub invariant-loop-symbol : goal.invariant-loop-symbol
invariant-loop-symbol l = IsBegun l.fn.origin l.fn.symbols l.drawing l.count l.symbols

abbrev pub decreases-loop-symbol : goal.decreases-loop-symbol
decreases-loop-symbol l = length l.symbols
