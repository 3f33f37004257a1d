use Rattle.plain_steps.proofs.Names.{All, CellHasRoom, take}
use Rattle.plain_steps.proofs.room.all_have_room.Given as goal

abbrev pub invariant-loop-cell : goal.invariant-loop-cell
invariant-loop-cell l = All (CellHasRoom l.patch.level) (take l.cell-index l.cells)
