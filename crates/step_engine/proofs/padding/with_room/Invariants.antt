use Rattle.step_engine.proofs.Names.{AddsRound, IsCentred, World, cells_of, level_of, ◌-◌, ◌≤◌}
use Rattle.square_table.specs.Squares.{IsHeld}
use Rattle.step_engine.proofs.padding.with_room.Given as goal

abbrev pub invariant-loop-table : goal.invariant-loop-table
invariant-loop-table l = record {
  held : IsHeld l.table l.square;
  level : (1 ≤ level_of l.square) × (level_of l.square ≤ l.level);
  centred : (w : World) → IsCentred w (level_of l.initial.square) (cells_of l.initial.table l.initial.square) → IsCentred w (level_of l.square) (cells_of l.table l.square);
  adds : AddsRound l.initial.table l.initial.square l.level l.table;
}

abbrev pub decreases-loop-table : goal.decreases-loop-table
decreases-loop-table l = l.level - level_of l.square
