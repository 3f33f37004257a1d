use Rattle.square_table.proofs.Names.{FindsRows, List, Slot, ap, kids_of, length, subst, ◌∙◌}
use Rattle.square_table.proofs.Noted.{whole}
use Rattle.square_table.proofs.slots.widen.Goals as goal

pub returns-then-spread : goal.returns-then-spread
returns-then-spread c =
    let wider = c.in-Ok.wider in
    let rows = c.args.rows.now in
    let found = c.spread.ensures.finds c.if-spread.true in
    subst (λ (slots : List Slot). FindsRows (kids_of rows) (length rows) slots) (whole wider.len c.spread.new.wider wider.items wider.ok.0 (c.spread.ensures.count ∙ ap length c.deref_mut.ensures.value)) found
