use Rattle.square_table.proofs.Names.{GrowsFrom, IsNumber, [], empty_square, square_in, ◌+◌, ◌≡◌}
use Rattle.square_table.proofs.table.SquareTable.blank.Given as goal

abbrev pub invariant-loop : goal.invariant-loop
invariant-loop l = record {
  grows : GrowsFrom (l.counter + 1) [] l.initial.self l.self;
  number : IsNumber l.self.rows l.counter l.number;
  cells : square_in l.self.rows l.counter l.number ≡ empty_square l.counter;
}
