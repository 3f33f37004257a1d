use Rattle.plane_core.proofs.Names.{All, All-drop, CanBeDrawn, List, Span, ap, drawn, subst, sym, world_of_rows, ◌∙◌}
use Rattle.plane_core.proofs.Laying.{drawn-append}
use Rattle.plane_core.proofs.lay.lay_rows.Goals as goal

pub loop-rest-preserved : goal.loop-rest-preserved
loop-rest-preserved c =
    let w = world_of_rows c.loop-rest.rows.items in
    let rest : List Span = c.loop-rest.rest.now in
    let batch : List Span = c.split_at.result.0.now in
    let more : List Span = c.split_at.result.1.now in
    let before = c.loop-rest.invariant in
    let can : All CanBeDrawn more = subst (All CanBeDrawn) (sym c.split_at.ensures.back) (All-drop CanBeDrawn 65536 rest before.2) in
    let laid = c.in_ok-lay_batch.ensures in
    let thin = c.in_ok-most.ensures in
    (thin.rows.0, thin.rows.1, can, ap (drawn more) (thin.world ∙ laid.world) ∙ sym (drawn-append batch more w) ∙ ap (λ (ss : List Span). drawn ss w) (sym c.split_at.ensures.by_index.0) ∙ before.3)
