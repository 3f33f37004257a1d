use Rattle.std.proofs.Common.{arith}
use Rattle.square_table.proofs.Packing.{packing_none}
use Rattle.square_table.proofs.table.SquareTable.nothing.Goals as goal

pub returns-clause-packing : goal.returns-clause-packing
returns-clause-packing c =
    packing_none c.args.self.now.rows (record { squares = c.in_ok-with_capacity.field-0; numbers = c.begin.new.self }) c.alloc.ensures
    c.in_ok-with_capacity.ensures.items c.in_ok-begin.ensures.none (omega (arith, c.end.ensures, c.in_ok-begin.ensures.room))
