use Rattle.plane_core.proofs.Names.{AreLaidStates, CanBeDrawn, List, Span, [], subst, sym}
use Rattle.plane_core.proofs.Laying.{all-run, laid-then, runs-more}
use Rattle.plane_core.proofs.lay.laid_runs.Goals as goal

pub laid_states-next-requires-clause-spans : goal.laid_states-next-requires-clause-spans
laid_states-next-requires-clause-spans c = all-run CanBeDrawn c.args.runs.now c.loop-run.run-index (record { ref_ptr = (0, 0); now = [] }) c.loop-run-test.true c.requires.spans

pub loop-run-preserved : goal.loop-run-preserved
loop-run-preserved c =
    let runs = c.args.runs.now in
    let i = c.loop-run.run-index in
    subst (λ (ss : List Span). AreLaidStates c.args.part ss c.args.states c.laid_states-next.result) (sym (runs-more runs i (record { ref_ptr = (0, 0); now = [] }) c.loop-run-test.true))
    (laid-then c.args.part _ _ c.args.states c.loop-run.laid c.laid_states-next.result c.loop-run.invariant c.laid_states-next.ensures)
