use Rattle.macrocell_lines.proofs.BitmapCells.{bitmaps-show}
use Rattle.macrocell_lines.proofs.laws.bitmaps_show_their_lines.Goals as goal

pub returns : goal.returns
returns c = bitmaps-show
