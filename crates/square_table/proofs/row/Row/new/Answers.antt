use Rattle.std.proofs.Common.{arith}
use Rattle.square_table.specs.Rows.{note_of}
use Rattle.square_table.proofs.row.Row.new.Goals as goal

pub returns-clause-note : goal.returns-clause-note
unfolding note_of
returns-clause-note c = omega (arith, c.if-nw-ge-NUMBERS.false, c.if-ne-ge-NUMBERS.false, c.if-sw-ge-NUMBERS.false, c.if-se-ge-NUMBERS.false)
