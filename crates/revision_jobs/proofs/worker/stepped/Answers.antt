use Rattle.std.proofs.Common.{◌∙◌, ap, sym, Ok}
use Rattle.worlds.specs.Iterate.{iterate}
use Rattle.worlds.specs.Step.{step}
use Rattle.worlds.specs.World.{World}
use Rattle.rule_tree.specs.Rule.{next_of}
use Rattle.std.specs.Arc.{arc_value}
use Rattle.revision_jobs.specs.Value.{pattern, start_of}
use Rattle.revision_jobs.proofs.worker.stepped.Goals as goal

pub returns-then-step-eq0-clause-value : goal.returns-then-step-eq0-clause-value
unfolding iterate
returns-then-step-eq0-clause-value g c =
    let s = c.args.step.now in
    ap (λ (w : World). Ok (pattern w))
    (c.in_ok-begun.ensures ∙ sym (ap (λ n. iterate n (step (next_of (arc_value s.rule))) (start_of s)) c.if-step-eq0.true))
