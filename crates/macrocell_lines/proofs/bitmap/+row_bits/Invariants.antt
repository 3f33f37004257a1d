use Rattle.std.proofs.Common.{length}
use Rattle.macrocell_lines.proofs.bitmap.+row_bits.Given as goal

abbrev pub decreases-row_bits : goal.decreases-row_bits
decreases-row_bits l = length l.cells.now
