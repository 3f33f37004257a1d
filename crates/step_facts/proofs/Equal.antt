-- Being the same step is an equivalence.
use Rattle.std.specs.Prelude.{◌≡◌, ◌⊎◌, ℕ, Bool, true, false, ◌==◌, ◌&&◌, []}
use Rattle.std.proofs.Common.{refl, sym, ap, ◌∙◌, subst, arith, inl, inr}
use Rattle.std.proofs.lemmas.Bool.{and_parts, both_ways, eqb-true}
use base.Stored.{Gv, gnil, gnum, gcons}
use Rattle.worlds.specs.World.{World}
use Rattle.worlds.specs.Iterate.{iterate}
use Rattle.worlds.specs.Lay.{lay}
use Rattle.worlds.specs.Step.{step}
use Rattle.rule_tree.specs.Rule.{next_of}
use Rattle.revision_jobs.specs.declared.entry.Step.{Step}
use Rattle.revision_jobs.specs.Value.{world_after}
use Rattle.step_facts.specs.Same.{Asked, asked_of, coded_asked, same_code, same_step}

same_code-is : (a b : Gv) → same_code a b ≡ true → a ≡ b
unfolding same_code
same_code-is gnil gnil h = refl
same_code-is (gnum m) (gnum n) h = ap gnum (eqb-true m n h)
same_code-is (gcons a b) (gcons c d) h =
    let both = and_parts (same_code a c) (same_code b d) h in
    let l = same_code-is a c both.0 in
    let r = same_code-is b d both.1 in λ i. gcons (l i) (r i)
same_code-is gnil (gnum n) h = cc
same_code-is gnil (gcons c d) h = cc
same_code-is (gnum m) gnil h = cc
same_code-is (gnum m) (gcons c d) h = cc
same_code-is (gcons a b) gnil h = cc
same_code-is (gcons a b) (gnum n) h = cc

same_code-itself : (a : Gv) → same_code a a ≡ true
unfolding same_code
same_code-itself gnil = refl
same_code-itself (gnum n) = grind arith
same_code-itself (gcons a b) = rw (same_code-itself a, same_code-itself b) refl

-- the same steps come of the same
pub same_step-is : (s t : Step) → same_step s t ≡ true → asked_of s ≡ asked_of t
unfolding same_step
same_step-is s t h = coded_asked.inj (asked_of s) (asked_of t) (same_code-is _ _ h)

pub is-same_step : (s t : Step) → asked_of s ≡ asked_of t → same_step s t ≡ true
unfolding same_step
is-same_step s t e =
    subst (λ a. same_code (coded_asked.code (asked_of s)) (coded_asked.code a) ≡ true) e
    (same_code-itself (coded_asked.code (asked_of s)))

-- of two steps, one that is the same as this one and one that isn't, another is not the same as both
pub not_both : (s other u v : Step) → same_step s u ≡ true → same_step s v ≡ false
    → (same_step other u ≡ false) ⊎ (same_step other v ≡ false)
not_both s other u v is isnt = by (same_step other u) (same_step other v) refl refl
  where
    by : (b c : Bool) → same_step other u ≡ b → same_step other v ≡ c
        → (same_step other u ≡ false) ⊎ (same_step other v ≡ false)
    by false c h k = inl h
    by true false h k = inr k
    by true true h k =
        let same = same_step-is s u is ∙ sym (same_step-is other u h) ∙ same_step-is other v k in
        absurd (both_ways _ isnt (is-same_step s v same))

abbrev came : Asked → World
came a =
    iterate a.gens (step (next_of (record { name = []; kind = a.kind }))) (lay a.cells a.from)

-- of the same comes the same
pub equal_comes : (s t : Step) → asked_of s ≡ asked_of t → world_after s ≡ world_after t
equal_comes s t e = ap came e
