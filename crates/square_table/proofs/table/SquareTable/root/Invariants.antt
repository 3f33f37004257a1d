use Rattle.square_table.proofs.Names.{AreNumbers, CentredAlike, cells_of, level_of, square_of, ◌-◌, ◌≤◌}
use Rattle.square_table.proofs.table.SquareTable.root.Given as goal

abbrev pub invariant-loop-root : goal.invariant-loop-root
invariant-loop-root l = record {
  low : 1 ≤ l.root.level;
  numbers : AreNumbers l.self.rows (l.root.level - 1) l.root.kids;
  centred : CentredAlike (level_of l.square) (cells_of l.self l.square) l.root.level (square_of l.self.rows (l.root.level - 1) l.root.kids);
}

abbrev pub decreases-loop-root : goal.decreases-loop-root
decreases-loop-root l = l.root.level
