use Rattle.square_table.proofs.Names.{ap, arith, map, map-set, note_in, slice_set, ◌∙◌}
use Rattle.square_table.proofs.Noted.{kids_of-set}
use Rattle.square_table.proofs.row.note.Goals as goal

pub returns-clause-kids : goal.returns-clause-kids
returns-clause-kids c = grind (arith, kids_of-set c.args.rows.now c.args.place c.with_note.result c.requires.there, c.with_note.ensures.kids)

pub returns-clause-notes : goal.returns-clause-notes
returns-clause-notes c =
    map-set note_in c.args.rows.now c.args.place c.with_note.result ∙ ap (slice_set (map note_in c.args.rows.now) c.args.place) c.with_note.ensures.note
