-- What is known after a fact was taken out, and after one was put in front.
use Rattle.std.proofs.Common.{arith, ◌≡◌, ◌<◌, ◌≤◌, ◌+◌, ◌⊎◌, ◌++◌, ℕ, zero, suc, Bool, true, false, cond, not, nat_lt, List, [], ◌∷◌, length, take, position, remove}
use Rattle.std.proofs.Common.{slice_index_or, inl, inr, Option, Some, None, IfSome, IsSome, OnSome, refl, sym, ap, ◌∙◌, subst}
use Rattle.std.proofs.lemmas.Bool.{ltb-false, ltb-true}
use Rattle.std.specs.List.{position_or_len}
use Rattle.std.specs.Map.{lookup_entry}
use Rattle.std.specs.Option.{option_map, option_map_or}
use Rattle.worlds.specs.World.{World}
use Rattle.revision_jobs.specs.declared.entry.Step.{Step}
use Rattle.step_facts.specs.Known.{AddsOnly, Fact, known, used, without}
use Rattle.step_facts.specs.Same.{asked_of, same_step}
use Rattle.step_facts.proofs.Equal.{is-same_step, not_both, same_step-is}

abbrev is_of : Step → Fact → Bool
is_of s f = same_step s f.0

abbrev fact_of : Step → List Fact → Option Fact
fact_of s fs = lookup_entry (same_step s) fs

-- where the first fact of a step stands, or the length
abbrev first : Step → List Fact → ℕ
first s [] = zero
first s (f ∷ fs) = cond (is_of s f) zero (suc (first s fs))

first_is : (s : Step) (fs : List Fact) → position_or_len (is_of s) fs ≡ first s fs
first_is s [] = refl
first_is s (f ∷ fs) =
    elim (is_of s f) as (λ b. cond (not b) (1 + position_or_len (is_of s) fs) 0 ≡ cond b zero (suc (first s fs))) [
      | true ↦ refl
      | false ↦ omega (arith, first_is s fs)
    ]

-- the place of the first one, if there is one
position_is : (s : Step) (fs : List Fact)
    → position (is_of s) fs ≡ cond (nat_lt (first s fs) (length fs)) (Some (first s fs)) None
position_is s fs = ap (λ n. cond (nat_lt n (length fs)) (Some n) None) (first_is s fs)

found : (s : Step) (fs : List Fact) (d : Fact) → first s fs < length fs
    → fact_of s fs ≡ Some (slice_index_or fs (first s fs) d)
found s [] d below = absurd (omega (arith, below))
found s (f ∷ fs) d below =
    (elim (is_of s f) as (λ b. cond b zero (suc (first s fs)) < length (f ∷ fs) → cond b (Some f) (fact_of s fs) ≡ Some (slice_index_or (f ∷ fs) (cond b zero (suc (first s fs))) d)) [
      | true ↦ λ _. refl
      | false ↦ λ less. found s fs d (omega (arith, less))
    ]) below

left : (s : Step) (fs : List Fact) → remove fs (first s fs) ≡ without s fs
left s [] = refl
left s (f ∷ fs) =
    elim (is_of s f) as (λ b. remove (f ∷ fs) (cond b zero (suc (first s fs))) ≡ cond b fs (f ∷ without s fs)) [
      | true ↦ refl
      | false ↦ ap (λ (gs : List Fact). f ∷ gs) (left s fs)
    ]

-- a place that was found is the first
at_first : (s : Step) (fs : List Fact) (i : ℕ) → Some i ≡ position (is_of s) fs
    → (first s fs ≡ i) × (first s fs < length fs)
at_first s fs i h =
    (elim (nat_lt (first s fs) (length fs)) as (λ b. nat_lt (first s fs) (length fs) ≡ b → Some i ≡ cond b (Some (first s fs)) None → (first s fs ≡ i) × (first s fs < length fs)) [
      | true ↦ λ below is. (cc, ltb-true _ _ below)
      | false ↦ λ above is. absurd cc
    ]) refl (h ∙ position_is s fs)

none_isnt : (o : Option Fact) → o ≡ None → IsSome o → ⊥
none_isnt None e h = cc
none_isnt (Some f) e h = cc

-- what was removed there is the step's fact
pub removed : (r : Option Fact) (s : Step) (old : List Fact) (i : ℕ) (new : List Fact)
    → Some i ≡ position (is_of s) old → IfSome r (λ f. f ≡ slice_index_or old i f)
    → OnSome r (new ≡ remove old i) → (i < length old → IsSome r)
    → (r ≡ fact_of s old) × (new ≡ without s old)
removed None s old i new h value items there =
    let at = at_first s old i h in absurd (none_isnt None refl (there (omega (arith, at.0, at.1))))
removed (Some f) s old i new h value items there =
    let at = at_first s old i h in (
      subst (λ j. f ≡ slice_index_or old j f → Some f ≡ fact_of s old) at.0
          (λ same. ap (λ g. Some g) same ∙ sym (found s old f at.1)) value,
      items ∙ ap (λ j. remove old j) (sym at.0) ∙ left s old,
    )

passed_over : (s : Step) (fs : List Fact) → length fs ≤ first s fs → None ≡ fact_of s fs
passed_over s [] h = refl
passed_over s (f ∷ fs) h =
    (elim (is_of s f) as (λ b. length (f ∷ fs) ≤ cond b zero (suc (first s fs)) → None ≡ cond b (Some f) (fact_of s fs)) [
      | true ↦ λ all. absurd (omega (arith, all))
      | false ↦ λ all. passed_over s fs (omega (arith, all))
    ]) h

-- of a step that isn't found there is no fact
pub lacking : (s : Step) (fs : List Fact) → None ≡ position (is_of s) fs → None ≡ fact_of s fs
lacking s fs h =
    (elim (nat_lt (first s fs) (length fs)) as (λ b. nat_lt (first s fs) (length fs) ≡ b → None ≡ cond b (Some (first s fs)) None → None ≡ fact_of s fs) [
      | true ↦ λ _ is. absurd cc
      | false ↦ λ above _. passed_over s fs (ltb-false _ _ above)
    ]) refl (h ∙ position_is s fs)

-- without the fact that there isn't, all are left
pub all_left : (s : Step) (fs : List Fact) → None ≡ fact_of s fs → fs ≡ without s fs
all_left s [] h = refl
all_left s (f ∷ fs) h =
    (elim (is_of s f) as (λ b. None ≡ cond b (Some f) (fact_of s fs) → f ∷ fs ≡ cond b fs (f ∷ without s fs)) [
      | true ↦ λ is. absurd cc
      | false ↦ λ is. ap (λ (gs : List Fact). f ∷ gs) (all_left s fs is)
    ]) h

-- what is known of a step, by its fact
known_by : (s : Step) (fs : List Fact) → known fs s ≡ option_map (λ f. f.1) (fact_of s fs)
known_by s [] = refl
known_by s (f ∷ fs) =
    elim (is_of s f) as (λ b. cond b (Some f.1) (known fs s) ≡ option_map (λ g. g.1) (cond b (Some f) (fact_of s fs))) [
      | true ↦ refl
      | false ↦ known_by s fs
    ]

pub none_known : (s : Step) (fs : List Fact) → None ≡ fact_of s fs → known fs s ≡ None
none_known s fs h = known_by s fs ∙ ap (λ o. option_map (λ (f : Fact). f.1) o) (sym h)

pub one_known : (s : Step) (fs : List Fact) (f : Fact) → Some f ≡ fact_of s fs
    → known fs s ≡ Some f.1
one_known s fs f h = known_by s fs ∙ ap (λ o. option_map (λ (f : Fact). f.1) o) (sym h)

is_same : (s : Step) (fs : List Fact) (f : Fact) → Some f ≡ fact_of s fs
    → same_step s f.0 ≡ true
is_same s [] f h = absurd cc
is_same s (g ∷ fs) f h =
    (elim (is_of s g) as (λ b. is_of s g ≡ b → Some f ≡ cond b (Some g) (fact_of s fs) → same_step s f.0 ≡ true) [
      | true ↦ λ here is. (let same : f ≡ g = cc in ap (λ (x : Fact). same_step s x.0) same ∙ here)
      | false ↦ λ _ is. is_same s fs f is
    ]) refl h

-- a fact is of a step that is the same
pub fact-same : (s : Step) (fs : List Fact) (f : Fact) → Some f ≡ fact_of s fs
    → asked_of f.0 ≡ asked_of s
fact-same s fs f h = sym (same_step-is s f.0 (is_same s fs f h))

swapped : (a b : Bool) (x y k : Option World) → (a ≡ false) ⊎ (b ≡ false)
    → cond a x (cond b y k) ≡ cond b y (cond a x k)
swapped false b x y k h = refl
swapped true false x y k h = refl
swapped true true x y k h = absurd (elim h [ inl e ↦ cc | inr e ↦ cc ])

-- ahead of the rest a step's fact tells what all told
tells : (s other : Step) (fs : List Fact) (f : Fact) → Some f ≡ fact_of s fs
    → known (f ∷ without s fs) other ≡ known fs other
tells s other [] f h = absurd cc
tells s other (g ∷ fs) f h =
    (elim (is_of s g) as (λ b. is_of s g ≡ b → Some f ≡ cond b (Some g) (fact_of s fs) → known (f ∷ cond b fs (g ∷ without s fs)) other ≡ known (g ∷ fs) other) [
      | true ↦ λ _ is. (let same : f ≡ g = cc in ap (λ x. known (x ∷ fs) other) same)
      | false ↦ λ isnt is.
          swapped (same_step other f.0) (same_step other g.0) (Some f.1) (Some g.1) (known (without s fs) other)
          (not_both s other f.0 g.0 (is_same s fs f is) isnt)
          ∙ ap (λ k. cond (same_step other g.0) (Some g.1) k) (tells s other fs f is)
    ]) refl h

-- where a step's fact was taken out and put in front, it was used
pub used_one : (s : Step) (fs : List Fact) (f : Fact) → Some f ≡ fact_of s fs
    → f ∷ without s fs ≡ used s fs
used_one s fs f h = ap (λ o. option_map_or (λ (g : Fact). g ∷ without s fs) o fs) h

pub used_none : (s : Step) (fs : List Fact) → None ≡ fact_of s fs → without s fs ≡ used s fs
used_none s fs h =
    sym (all_left s fs h) ∙ ap (λ o. option_map_or (λ (g : Fact). g ∷ without s fs) o fs) h

-- using a fact changes nothing of what is known
pub used_tells : (s other : Step) (fs : List Fact) → known (used s fs) other ≡ known fs other
used_tells s other fs =
    (elim (fact_of s fs) as (λ o. o ≡ fact_of s fs → known (option_map_or (λ (g : Fact). g ∷ without s fs) o fs) other ≡ known fs other) [
      | None ↦ λ _. refl
      | Some f ↦ λ is. tells s other fs f is
    ]) refl

-- the fact in front is known
pub known-front : (s : Step) (f : Fact) (fs : List Fact) → asked_of f.0 ≡ asked_of s
    → known (f ∷ fs) s ≡ Some f.1
known-front s f fs e = ap (λ b. cond b (Some f.1) (known fs s)) (is-same_step s f.0 (sym e))

some_first : (b : Bool) (w : World) (o : Option World) → IsSome o → IsSome (cond b (Some w) o)
some_first true w o h = refl
some_first false w o h = h

some_later : (b : Bool) (w : World) (o p : Option World) → (IsSome o → IsSome p)
    → IsSome (cond b (Some w) o) → IsSome (cond b (Some w) p)
some_later true w o p more h = refl
some_later false w o p more h = more h

-- what the first facts tell all tell
of_first : (n : ℕ) (fs : List Fact) (other : Step) → IsSome (known (take n fs) other)
    → IsSome (known fs other)
of_first zero fs other h = absurd cc
of_first (suc n) [] other h = h
of_first (suc n) (f ∷ fs) other h =
    some_later (same_step other f.0) f.1 (known (take n fs) other) (known fs other) (of_first n fs other) h

-- and so do those that are left without one
of_left : (s other : Step) (fs : List Fact) → IsSome (known (without s fs) other)
    → IsSome (known fs other)
of_left s other [] h = h
of_left s other (f ∷ fs) h =
    (elim (is_of s f) as (λ b. IsSome (known (cond b fs (f ∷ without s fs)) other) → IsSome (known (f ∷ fs) other)) [
      | true ↦ λ some. some_first (same_step other f.0) f.1 (known fs other) some
      | false ↦ λ some. some_later (same_step other f.0) f.1 (known (without s fs) other) (known fs other) (of_left s other fs) some
    ]) h

-- of a fact that is put before some of the others nothing else becomes known
pub adds : (s : Step) (fs : List Fact) (kept : Fact) (n : ℕ) → asked_of kept.0 ≡ asked_of s
    → AddsOnly s fs (kept ∷ take n (without s fs))
adds s fs kept n e other there =
    (elim (same_step other kept.0) as (λ b. same_step other kept.0 ≡ b → IsSome (cond b (Some kept.1) (known (take n (without s fs)) other)) → (asked_of s ≡ asked_of other) ⊎ IsSome (known fs other)) [
      | true ↦ λ is _. inl (sym e ∙ sym (same_step-is other kept.0 is))
      | false ↦ λ _ some. inr (of_left s other fs (of_first n (without s fs) other some))
    ]) refl there
