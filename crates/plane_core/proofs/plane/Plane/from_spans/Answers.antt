use Rattle.plane_core.proofs.Names.{IfOk-weaker, List, Span, ap, blank, drawn, world_of_rows, ◌∙◌, ◌≡◌}
use Rattle.plane_core.proofs.plane.Plane.from_spans.Goals as goal

pub returns : goal.returns
returns c =
    let woven : world_of_rows c.deref-2.result.now ≡ drawn c.args.spans.items blank =
    ap world_of_rows c.deref-2.ensures.value ∙ c.in_ok-rows.ensures.world ∙ ap (λ (ss : List Span). drawn ss blank) c.deref.ensures.value in
    IfOk-weaker c.from_squares.result (λ plane. plane ≡ world_of_rows c.deref-2.result.now) (λ plane. plane ≡ drawn c.args.spans.items blank) (λ plane is. is ∙ woven) c.from_squares.ensures
