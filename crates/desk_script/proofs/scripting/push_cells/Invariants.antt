use Rattle.desk_script.proofs.Names.{cell_words, drop}
use Rattle.desk_script.proofs.Pushed.{IsGrowing}
use Rattle.desk_script.proofs.scripting.push_cells.Given as goal

abbrev pub invariant-loop-cell : goal.invariant-loop-cell
invariant-loop-cell l = IsGrowing cell_words l.fn.script.items l.script.items (drop l.cell-index l.cells) l.cells
