use Rattle.std.proofs.Common.{Bool, true, false, ap, refl, sym, ◌≡◌, ◌∙◌}
use Rattle.std.proofs.lemmas.Bool.{ne_eqb}
use Rattle.std.specs.Bool.{one_answer}
use Rattle.worlds.specs.Live.{population}
use Rattle.step_facts.specs.Same.{Asked, same_step}
use Rattle.step_facts.proofs.Equal.{is-same_step, same_step-is}
use Rattle.step_facts.proofs.kept.Kept.is_of.Goals as goal

pub returns-then-self-live : goal.returns-then-self-live
returns-then-self-live c =
    let s = c.args.step.now in
    let t = c.self.inside.step in
    one_answer c.are_same.result (same_step s t) c.are_same.ensures (same_step-is s t, is-same_step s t)
    ∙ ap (λ f. same_step s f.0) c.self.view_is

-- with as many live cells as not, it would be the same
isnt : (b : Bool) → (b ≡ true → ⊥) → false ≡ b
isnt true h = absurd (h refl)
isnt false h = refl

pub returns-else-self-live : goal.returns-else-self-live
returns-else-self-live c =
    let s = c.args.step.now in
    let t = c.self.inside.step in
    ne_eqb c.self.inside.live c.args.live c.if-self-live.false
    ∙ isnt (same_step s t) (λ h. c.if-self-live.false
    (c.self.invariant.0 ∙ sym (ap (λ (a : Asked). population a.from) (same_step-is s t h)) ∙ sym c.requires))
    ∙ ap (λ f. same_step s f.0) c.self.view_is
