use Rattle.std.proofs.Common.{List, Some, ap, subst, sym, take, ℕ, ◌-◌, ◌∙◌, ◌∷◌, ◌≡◌}
use Rattle.revision_jobs.specs.declared.entry.Step.{Step}
use Rattle.revision_jobs.specs.Value.{world_after}
use Rattle.step_facts.specs.Known.{AddsOnly, Fact, FactList, known, without}
use Rattle.step_facts.proofs.Taking.{adds, known-front}
use Rattle.step_facts.proofs.facts.Facts.keep.Goals as goal

-- the facts that are kept beside the new one
rest_is : (step : Step) (rest old mid : List Fact) (n most : ℕ) → rest ≡ take n mid → mid ≡ without step old → n ≡ most - 1
    → rest ≡ take (most - 1) (without step old)
rest_is step rest old mid n most cut taken is = cut ∙ (λ i. take (is i) (taken i))

pub returns-clause-first : goal.returns-clause-first
returns-clause-first c =
    let step = c.args.step.now in
    record {
      kept = c.in_ok-kept.kept.0;
      same = c.in_ok-kept.ensures.step;
      list = c.push_front_reserved.ensures.items
          ∙ (λ i. (c.in_ok-kept.kept.0, c.in_ok-kept.ensures.value i) ∷ c.truncate.new.self.items)
          ∙ ap (λ (fs : List Fact). (c.in_ok-kept.kept.0, world_after step) ∷ fs)
          (rest_is step c.truncate.new.self.items c.args.self.now.list c.take_out.new.facts.items _ c.args.self.now.most
          c.truncate.ensures.items
          (c.take_out.ensures.rest ∙ ap (without step) (c.reserve.ensures.items ∙ ap (λ (l : FactList). l.list) c.self.view_is))
          (ap (λ (n : ℕ). n - 1) (c.get.ensures.value ∙ ap (λ (l : FactList). l.most) c.self.view_is)));
      most = ap (λ (l : FactList). l.most) c.self.view_is;
    }

pub returns-clause-kept : goal.returns-clause-kept
returns-clause-kept c =
    ap (λ fs. known fs c.args.step.now) c.push_front_reserved.ensures.items
    ∙ known-front c.args.step.now c.in_ok-kept.kept c.truncate.new.self.items c.in_ok-kept.ensures.step
    ∙ ap (λ w. Some w) c.in_ok-kept.ensures.value

pub returns-clause-adds : goal.returns-clause-adds
returns-clause-adds c =
    let is = returns-clause-first c in
    subst (λ fs. AddsOnly c.args.step.now c.args.self.now.list fs) (sym is.list)
    (adds c.args.step.now c.args.self.now.list (is.kept, world_after c.args.step.now) (c.args.self.now.most - 1) is.same)
