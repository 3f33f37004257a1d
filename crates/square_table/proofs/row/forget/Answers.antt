use Rattle.square_table.proofs.Names.{ap, arith, get_or, length, length-map, length-set, map, map-set, note_in, slice_set, ◌<◌, ◌∙◌}
use Rattle.std.proofs.lemmas.List.Edits.{fill_by_more}
use Rattle.square_table.proofs.Noted.{kids_of-set, all_none}
use Rattle.square_table.proofs.row.forget.Goals as goal

pub loop-row-preserved : goal.loop-row-preserved
loop-row-preserved c =
    let rows = c.loop-row.rows in
    let at = c.loop-row.row-index in
    let was = c.loop-row.invariant in
    let below : at < length rows = omega (arith, c.loop-row-test.true, was.count) in
    let set = map-set note_in rows at c.with_note.result ∙ ap (slice_set (map note_in rows) at) c.with_note.ensures.note in
    record {
      count = length-set rows at c.with_note.result ∙ was.count;
      kids = kids_of-set rows at c.with_note.result below c.with_note.ensures.kids ∙ was.kids;
      none = λ i h. ap (λ notes. get_or notes i 0) set ∙ fill_by_more (λ k. 0) (map note_in rows) at 0 (omega (arith, below, length-map rows note_in)) was.none i h;
    }

pub returns-clause-none : goal.returns-clause-none
returns-clause-none c =
    let was = c.loop-row.invariant in
    all_none (map note_in c.loop-row.rows) (length c.args.rows.now) (length-map c.loop-row.rows note_in ∙ was.count) (λ i h. was.none i (omega (arith, h, c.loop-row-test.false, was.count)))
