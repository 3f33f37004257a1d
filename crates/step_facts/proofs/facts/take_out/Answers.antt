use Rattle.std.proofs.Common.{arith, ◌∙◌}
use Rattle.step_facts.proofs.Taking.{all_left, lacking, removed}
use Rattle.step_facts.proofs.facts.take_out.Goals as goal

pub returns-in_err-place-clause-fact : goal.returns-in_err-place-clause-fact
returns-in_err-place-clause-fact c =
    c.from_residual.ensures ∙ lacking c.args.step.now c.args.facts.now.items c.in_err-place.ensures

pub returns-in_err-place-clause-rest : goal.returns-in_err-place-clause-rest
returns-in_err-place-clause-rest c =
    all_left c.args.step.now c.args.facts.now.items (lacking c.args.step.now c.args.facts.now.items c.in_err-place.ensures)

pub returns-clause-fact : goal.returns-clause-fact
returns-clause-fact c =
    (removed c.remove.result c.args.step.now c.args.facts.now.items c.in_ok-place.place c.remove.new.self.items
    c.in_ok-place.ensures c.remove.ensures.value c.remove.ensures.items
    (λ below. c.remove.ensures.variant.1 (omega (arith, below, c.args.facts.now.ok.0)))).0

pub returns-clause-rest : goal.returns-clause-rest
returns-clause-rest c =
    (removed c.remove.result c.args.step.now c.args.facts.now.items c.in_ok-place.place c.remove.new.self.items
    c.in_ok-place.ensures c.remove.ensures.value c.remove.ensures.items
    (λ below. c.remove.ensures.variant.1 (omega (arith, below, c.args.facts.now.ok.0)))).1
