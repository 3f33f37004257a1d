use Rattle.square_table.proofs.Names.{AreBlanks, AreLoaded, GrowsFrom, length, ◌-◌}
use Rattle.square_table.proofs.table.SquareTable.load_rows.Given as goal

abbrev pub invariant-loop-self : goal.invariant-loop-self
invariant-loop-self l = record {
  grows : GrowsFrom 0 l.squares l.initial.self l.self;
  blanks : AreBlanks l.self.rows l.blanks;
  loaded : AreLoaded l.squares l.self.rows l.numbers.items;
}

abbrev pub decreases-loop-self : goal.decreases-loop-self
decreases-loop-self l = length l.squares - length l.numbers.items
