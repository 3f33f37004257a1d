-- Each step of the queue of answers keeps its rule.
use Rattle.job_pool.proofs.Names.{AreAnswersOf, IsAnswerOf, IsHome, List, None, Option, Some, Terms, [], arith, length, refl, set, subst, suc, sym, zero, ℕ, ⊎_elim, ◌++◌, ◌∙◌, ◌∷◌, ◌≡◌, ◌≢◌}
use mathlib.Core.Option.{some, some-ne-none, some-injective}
use lib.ListN.{get_elem?}
use Rattle.crossbeam_channel.specs.Fifo.{Pushes, Pops, Forks}
use Rattle.atomic_table.proofs.Lists.{at_set, at_snoc, set_again}
use Rattle.revision_jobs.specs.Answer.{JobResult}

some_none : (t : Terms) → Some t ≡ None → ⊥
some_none t e = cc

owned_snoc : (t : Option Terms) (items : List JobResult) (x : JobResult) → AreAnswersOf t items → IsAnswerOf t x → AreAnswersOf t (items ++ x ∷ [])
owned_snoc t [] x a o = (o, tt)
owned_snoc t (y ∷ ys) x a o = (a.0, owned_snoc t ys x a.1 o)

owned_none : (t : Option Terms) (items : List JobResult) → AreAnswersOf None items → AreAnswersOf t items
owned_none t [] a = tt
owned_none t (y ∷ ys) a = absurd a.0

pub begins : IsHome [] (None ∷ [])
begins = record { terms = None; known = one; owned = tt; alone = λ _. refl }
  where
    one : (port : ℕ) (v : Option Terms) → get_elem? (None ∷ []) port ≡ some v → v ≡ None
    one zero v e = sym (some-injective _ _ e)
    one (suc port) v e = absurd (some-ne-none v (sym e))

pub gives : (n port : ℕ) (v : Option Terms) (x : JobResult) → IsAnswerOf v x → Pushes IsHome n port v x (λ w. (w ≡ v) × IsAnswerOf v x)
gives n port v x own items views _ b at =
    let P : List (Option Terms) → Type 0 = λ vs. IsHome (items ++ x ∷ []) vs in (
      v,
      subst P (sym (set_again views port v at)) record {
        terms = b.terms;
        known = b.known;
        owned = owned_snoc b.terms items x b.owned (subst (λ (t : Option Terms). IsAnswerOf t x) (b.known port v at) own);
        alone = b.alone;
      },
      (refl, own),
    )

pub takes : (port : ℕ) (v : Option Terms) → Pops IsHome port v (λ x w. (w ≡ v) × IsAnswerOf v x)
takes port v x items views b at =
    let P : List (Option Terms) → Type 0 = λ vs. IsHome items vs in (
      v,
      subst P (sym (set_again views port v at)) record { terms = b.terms; known = b.known; owned = b.owned.1; alone = b.alone },
      (refl, subst (λ (t : Option Terms). IsAnswerOf t x) (sym (b.known port v at)) b.owned.0),
    )

pub forks : (port : ℕ) (v : Option Terms) (t : Terms) → v ≡ Some t → Forks IsHome port v v v
forks port v t tabled items views b at =
    let P : List (Option Terms) → Type 0 = λ vs. IsHome items (vs ++ v ∷ []) in
    let same = b.known port v at in
    subst P (sym (set_again views port v at)) record {
      terms = b.terms;
      known = λ j u e. ⊎_elim (b.known j u) (λ (is : v ≡ u). sym is ∙ same) (at_snoc views v u j e);
      owned = b.owned;
      alone = λ e. absurd (some_none t (sym tabled ∙ (same ∙ e)));
    }

only : (views : List (Option Terms)) (j : ℕ) (u : Option Terms) → length views ≡ 1 → get_elem? views j ≡ some u → j ≡ 0
only [] j u len e = absurd (some-ne-none u (sym e))
only (x ∷ []) zero u len e = refl
only (x ∷ []) (suc j) u len e = absurd (some-ne-none u (sym e))
only (x ∷ y ∷ ys) j u len e = absurd (omega arith)

pub names : (port : ℕ) (v : Option Terms) (t : Terms) → v ≡ None → Forks IsHome port v (Some t) (Some t)
names port v t none items views b at =
    let none' : b.terms ≡ None = sym (b.known port v at) ∙ none in
    let len : length views ≡ 1 = b.alone none' in
    record {
      terms = Some t;
      known = λ j u e. ⊎_elim
          (λ (x : get_elem? (set views port (Some t)) j ≡ some u). ⊎_elim
          (λ (y : (j ≡ port) × (Some t ≡ u)). sym y.1)
          (λ (y : (j ≢ port) × (get_elem? views j ≡ some u)). absurd (y.0 (only views j u len y.1 ∙ sym (only views port v len at))))
          (at_set views port j (Some t) u x))
          (λ (is : Some t ≡ u). sym is)
          (at_snoc (set views port (Some t)) (Some t) u j e);
      owned = owned_none (Some t) items (subst (λ (o : Option Terms). AreAnswersOf o items) none' b.owned);
      alone = λ e. absurd (some_none t e);
    }
