use Rattle.square_table.proofs.Names.{AreBlanks, GrowsFrom, [], length, ◌≡◌}
use Rattle.square_table.proofs.table.SquareTable.blanks.Given as goal

abbrev pub invariant-loop : goal.invariant-loop
invariant-loop l = record {
  grows : GrowsFrom (length l.blanks.items) [] l.initial.self l.self;
  count : length l.blanks.items ≡ l.counter;
  blanks : AreBlanks l.self.rows l.blanks.items;
}
