use Rattle.std.proofs.Common.{◌∙◌}
use Rattle.square_table.proofs.Noted.{digits, note_four}
use Rattle.square_table.proofs.row.Row.with_note.Goals as goal

pub returns-clause-note : goal.returns-clause-note
returns-clause-note c =
    note_four c.word.result c.word-2.result c.word-3.result c.word-4.result
    ∙ rw (c.word.ensures.part, c.word-2.ensures.part, c.word-3.ensures.part, c.word-4.ensures.part) (digits c.args.note c.requires)
