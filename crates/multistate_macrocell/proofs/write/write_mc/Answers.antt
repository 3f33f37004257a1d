use Rattle.multistate_macrocell.proofs.Names.{IfOk-weaker, List, SquareRow, ap, nodes_of, rows_of, rows_of-squares, sym, written_text, ◌∙◌, ◌≡◌}
use Rattle.multistate_macrocell.proofs.write.write_mc.Goals as goal

pub returns : goal.returns
returns c =
    let name = c.args.name.now in
    let generation = c.args.generation in
    let rows : c.deref.result.now ≡ rows_of c.args.plane.now = c.deref.ensures.value ∙ sym (rows_of-squares c.args.plane.now c.in_ok-rows.rows.items c.in_ok-rows.ensures.squares) in
    IfOk-weaker c.text_of.result _ _
    (λ text is. is ∙ ap (λ (rs : List SquareRow). written_text name generation (nodes_of rs)) rows)
    c.text_of.ensures
