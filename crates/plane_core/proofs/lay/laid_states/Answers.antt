use Rattle.plane_core.proofs.Names.{AreLaidStates, List, Span, pos, subst, sym, take_more}
use Rattle.plane_core.proofs.Laying.{laid-then}
use Rattle.plane_core.proofs.lay.laid_states.Goals as goal

pub loop-span-preserved : goal.loop-span-preserved
loop-span-preserved c =
    let ss : List Span = c.args.spans.now in
    let i = c.loop-span.span-index in
    let none : Span = record { x = pos 0; y = pos 0; count = 0; state = 0 } in
    subst (λ (ss : List Span). AreLaidStates c.args.part ss c.args.states c.drawn_states-next.result) (sym (take_more ss i none c.loop-span-test.true))
    (laid-then c.args.part _ _ c.args.states c.loop-span.laid c.drawn_states-next.result c.loop-span.invariant c.drawn_states-next.ensures)
