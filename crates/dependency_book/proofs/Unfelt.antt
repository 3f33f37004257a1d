-- An edit of interventions that is felt nowhere.
use Rattle.dependency_book.proofs.Names.{AllByRecursion, Asked, BookIsUnfelt, BookIsUnfeltAt, BookIsUnfeltWhere, BookState, Bool, IsTrue, List, Option, Some, UnfeltTouch, [], acts_on, and_from, and_parts, any_so, ap, arrival_known, changed}
use Rattle.dependency_book.proofs.Names.{eq_true, generations_to, le_true, list_any, mark_at, nat_le, or_right, reach, refl, subst, sym, touched_by, true, true_eq, true_le, ℕ, ◌&&◌, ◌==◌, ◌↔◌, ◌∙◌, ◌∷◌, ◌≡◌}
use Rattle.schedule.specs.declared.acts.Acts.{Acts}
use Rattle.schedule.proofs.Shared.Acts.{any-generations}
use Rattle.desk_events.specs.declared.touched.Touched.{Touched}

-- at one generation after another

-- an edit changes no pattern at these generations of a branch
abbrev pub IsUnfeltEach : BookState → Asked → ℕ → List ℕ → Type 0
IsUnfeltEach d asked branch gs = AllByRecursion (λ g. BookIsUnfeltAt d asked (mark_at branch g)) gs

each_listed : (P : ℕ → Type 0) (gs : List ℕ) → ((g : ℕ) → list_any (λ k. k == g) gs ≡ true → P g)
    → AllByRecursion P gs
each_listed P [] h = tt
each_listed P (g ∷ gs) h = (
  h g (rw (eq_true g g refl) refl),
  each_listed P gs (λ k there. h k (or_right (g == k) (list_any (λ j. j == k) gs) there)),
)

-- which are those where something acts, as far as the branch reaches
pub where_each : (d : BookState) (asked : Asked) (branch : ℕ) (acts : Acts) (gs : List ℕ)
    → gs ≡ generations_to (reach d.plan branch) acts
    → (IsUnfeltEach d asked branch gs ↔ BookIsUnfeltWhere d asked branch acts)
where_each d asked branch acts gs are =
    let far = reach d.plan branch in
    let P : ℕ → Type 0 = λ g. BookIsUnfeltAt d asked (mark_at branch g) in
    let among : (g : ℕ) → list_any (λ k. k == g) gs ≡ (acts_on acts g && nat_le g far) =
    λ g. ap (list_any (λ k. k == g)) are ∙ any-generations far acts g in (
      λ all g on low.
          any_so (λ k. k == g) P gs (λ k here hit. subst P (true_eq k g hit) here) all
          (among g ∙ and_from (acts_on acts g) (nat_le g far) on (le_true g far low)),
      λ h. each_listed P gs
          (λ g there. let parts = and_parts (acts_on acts g) (nat_le g far) (sym (among g) ∙ there) in
          h g parts.0 (true_le g far parts.1)),
    )

-- the first of them is passed over, or decides, or there is none

pub each_next : {W : Type 0} (d : BookState) (asked : Asked) (branch g : ℕ) (gs rest : List ℕ) → gs ≡ g ∷ rest
    → BookIsUnfeltAt d asked (mark_at branch g) → (IsUnfeltEach d asked branch gs ↔ W)
    → (IsUnfeltEach d asked branch rest ↔ W)
each_next d asked branch g gs rest are here so = (
  λ all. so.0 (subst (IsUnfeltEach d asked branch) (sym are) (here, all)),
  λ w. (subst (IsUnfeltEach d asked branch) are (so.1 w)).1,
)

pub each_felt : {W : Type 0} (d : BookState) (asked : Asked) (branch g : ℕ) (gs rest : List ℕ) → gs ≡ g ∷ rest
    → (BookIsUnfeltAt d asked (mark_at branch g) → ⊥) → (IsUnfeltEach d asked branch gs ↔ W) → W → ⊥
each_felt d asked branch g gs rest are felt so w = felt (subst (IsUnfeltEach d asked branch) are (so.1 w)).0

pub each_done : {W : Type 0} (d : BookState) (asked : Asked) (branch : ℕ) (gs : List ℕ) → gs ≡ []
    → (IsUnfeltEach d asked branch gs ↔ W) → W
each_done d asked branch gs none so = so.0 (subst (IsUnfeltEach d asked branch) (sym none) tt)

-- an edit is unfelt by what it touches
pub unfelt_by : (d : BookState) (asked : Asked) (o : Option Touched) → o ≡ touched_by d.plan asked
    → (UnfeltTouch (arrival_known d) d.plan (changed d.plan asked).plan o ↔ BookIsUnfelt d asked)
unfelt_by d asked o is =
    let by : Option Touched → Type 0 = UnfeltTouch (arrival_known d) d.plan (changed d.plan asked).plan in
    (subst by is, subst by (sym is))

-- where something acts after it, if it is unfelt where that acted before
pub unfelt_later : (d : BookState) (asked : Asked) (t : Touched) (b : Bool) → Some t ≡ touched_by d.plan asked
    → BookIsUnfeltWhere d asked t.branch t.was → (IsTrue b ↔ BookIsUnfeltWhere d asked t.branch t.is)
    → (IsTrue b ↔ BookIsUnfelt d asked)
unfelt_later d asked t b is was same =
    let by = unfelt_by d asked (Some t) is in
    (λ yes. by.0 (was, same.0 yes), λ h. same.1 (by.1 h).1)
