use Rattle.std.proofs.Common.{None, Option, Some, ap, sym, ◌∙◌, ◌∷◌, ◌≡◌}
use Rattle.std.specs.Map.{lookup_entry}
use Rattle.step_facts.specs.Known.{Fact, FactList, known, used, without}
use Rattle.step_facts.specs.Same.{same_step}
use Rattle.step_facts.proofs.Equal.{equal_comes}
use Rattle.step_facts.proofs.Taking.{fact-same, none_known, one_known, used_none, used_one, used_tells}
use Rattle.step_facts.proofs.facts.Facts.recall.Goals as goal

pub returns-in_default-clause-known : goal.returns-in_default-clause-known
returns-in_default-clause-known c =
    let step = c.args.step.now in
    let none : None ≡ lookup_entry (same_step step) c.self.inside.kept.items = sym c.in_default.is ∙ c.take_out.ensures.fact in
    sym (none_known step c.self.inside.kept.items none) ∙ ap (λ (l : FactList). known l.list step) c.self.view_is

pub returns-in_default-clause-used : goal.returns-in_default-clause-used
returns-in_default-clause-used c =
    let step = c.args.step.now in
    let none : None ≡ lookup_entry (same_step step) c.self.inside.kept.items = sym c.in_default.is ∙ c.take_out.ensures.fact in
    c.take_out.ensures.rest ∙ used_none step c.self.inside.kept.items none
    ∙ ap (λ (l : FactList). used step l.list) c.self.view_is

pub returns-in_default-clause-others : goal.returns-in_default-clause-others
returns-in_default-clause-others c other =
    ap (λ fs. known fs other) (returns-in_default-clause-used c) ∙ used_tells c.args.step.now other c.args.self.now.list

pub returns-in_err-value-clause-used : goal.returns-in_err-value-clause-used
returns-in_err-value-clause-used c =
    let step = c.args.step.now in
    c.push_front_reserved.ensures.items ∙ ap (λ fs. c.in-Some.kept ∷ fs) c.in-Some.ensures.rest
    ∙ used_one step c.self.inside.kept.items c.in-Some.kept c.in-Some.ensures.fact
    ∙ ap (λ (l : FactList). used step l.list) c.self.view_is

pub returns-in_err-value-clause-others : goal.returns-in_err-value-clause-others
returns-in_err-value-clause-others c other =
    ap (λ fs. known fs other) (returns-in_err-value-clause-used c) ∙ used_tells c.args.step.now other c.args.self.now.list

pub returns-clause-known : goal.returns-clause-known
returns-clause-known c =
    let step = c.args.step.now in
    ap (λ w. Some w) c.in_ok-value.ensures.value
    ∙ sym (one_known step c.self.inside.kept.items c.in-Some.kept c.in-Some.ensures.fact)
    ∙ ap (λ (l : FactList). known l.list step) c.self.view_is

pub returns-clause-right : goal.returns-clause-right
returns-clause-right c =
    let step = c.args.step.now in
    c.in_ok-value.ensures.value ∙ c.in_ok-value.ensures.right
    ∙ equal_comes c.in-Some.kept.0 step (fact-same step c.self.inside.kept.items c.in-Some.kept c.in-Some.ensures.fact)

pub returns-clause-used : goal.returns-clause-used
returns-clause-used c =
    let step = c.args.step.now in
    c.push_front_reserved.ensures.items ∙ ap (λ fs. c.in-Some.kept ∷ fs) c.in-Some.ensures.rest
    ∙ used_one step c.self.inside.kept.items c.in-Some.kept c.in-Some.ensures.fact
    ∙ ap (λ (l : FactList). used step l.list) c.self.view_is

pub returns-clause-others : goal.returns-clause-others
returns-clause-others c other =
    ap (λ fs. known fs other) (returns-clause-used c) ∙ used_tells c.args.step.now other c.args.self.now.list
