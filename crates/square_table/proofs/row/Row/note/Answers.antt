use Rattle.std.proofs.Common.{refl}
use Rattle.square_table.specs.Rows.{note_of}
use Rattle.square_table.proofs.row.Row.note.Goals as goal

pub returns : goal.returns
unfolding note_of
returns c = refl
