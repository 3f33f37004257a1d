use Rattle.square_table.proofs.Names.{List, Row, Table, ap, arith, first_number, get_or, kids_in, kids_of, subst, sym, with_note, ◌-◌, ◌∙◌, ◌≡◌}
use Rattle.square_table.proofs.Noted.{seen, seen-note, noted-there, whole, same_length}
use Rattle.square_table.proofs.table.SquareTable.note.Goals as goal

pub returns-clause-table : goal.returns-clause-table
returns-clause-table c =
    let rows = c.self.inside.rows in
    let new = c.note.new.rows in
    let limit = c.self.inside.limit in
    let changed : seen new limit ≡ with_note c.args.self.now c.args.number c.args.noted =
    grind (arith, seen-note c.args.self.now rows.items new limit c.args.number c.args.noted, c.self.view_is, c.requires, c.deref_mut.ensures.value, c.note.ensures) in
    let long = same_length kids_in new rows.items (c.note.ensures.kids ∙ ap kids_of c.deref_mut.ensures.value) in
    subst (λ (items : List Row). seen items limit ≡ with_note c.args.self.now c.args.number c.args.noted) (whole rows.len new rows.items rows.ok.0 long) changed

pub returns-clause-noted : goal.returns-clause-noted
returns-clause-noted c =
    ap (λ (t : Table). get_or t.notes (c.args.number - first_number) 0) (returns-clause-table c)
    ∙ noted-there c.args.self.now c.self.inside.rows.items c.self.inside.limit c.args.number c.args.noted (sym c.self.view_is) c.requires.above c.requires.there
