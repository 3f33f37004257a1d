use Rattle.square_table.proofs.Names.{arith, bytes_eq-Decides, eqb-true}
use Rattle.square_table.proofs.Packing.{blank_row, blank_state, quadrant_numbers}
use Rattle.square_table.proofs.table.SquareTable.+is_blank.Goals as goal

pub returns-then-level-eq0 : goal.returns-then-level-eq0
returns-then-level-eq0 t c = λ is. blank_state c.args.self.now.rows c.args.level c.args.number c.if-level-eq0.true (eqb-true c.args.number 0 is)

pub is_blank-requires : goal.is_blank-requires
is_blank-requires t c = grind (arith, quadrant_numbers)

pub returns-then-eq : goal.returns-then-eq
returns-then-eq t c = grind (arith, blank_row, bytes_eq-Decides)
