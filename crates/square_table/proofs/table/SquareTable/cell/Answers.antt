use Rattle.square_table.proofs.Names.{ap, arith, one, refl}
use Rattle.square_table.specs.Squares.{IsNumber, square_in}
use Rattle.square_table.proofs.table.SquareTable.cell.Goals as goal

pub returns : goal.returns
unfolding IsNumber square_in
returns c = record {
  held = record { numbered = omega (arith, c.ranges.state); quadrants = λ some. absurd (omega arith) };
  level = refl;
  cells = ap one c.from.ensures;
}
