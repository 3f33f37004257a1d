use Rattle.plane_core.proofs.Names.{AreThoseIn, Bor, CanBeDrawn, List, Span, [], arith, spans_of_runs, subst, sym, take_all}
use Rattle.plane_core.proofs.Laying.{all-run, runs-more}
use Rattle.plane_core.proofs.lay.touching.Goals as goal

pub add_touching-requires-clause-spans : goal.add_touching-requires-clause-spans
add_touching-requires-clause-spans c = all-run CanBeDrawn c.args.runs.now c.loop-run.run-index (record { ref_ptr = (0, 0); now = [] }) c.loop-run-test.true c.requires.spans

pub loop-run-preserved : goal.loop-run-preserved
loop-run-preserved c =
    let runs = c.args.runs.now in
    let i = c.loop-run.run-index in
    subst (λ (ss : List Span). AreThoseIn c.args.part ss (spans_of_runs c.add_touching.new.found.items)) (sym (runs-more runs i (record { ref_ptr = (0, 0); now = [] }) c.loop-run-test.true))
    (c.in_ok-add_touching.ensures _ c.loop-run.invariant)

pub returns : goal.returns
returns c =
    subst (λ (rs : List (Bor (List Span))). AreThoseIn c.args.part (spans_of_runs rs) (spans_of_runs c.loop-run.found.items)) (take_all c.loop-run.run-index c.args.runs.now (omega arith)) c.loop-run.invariant
