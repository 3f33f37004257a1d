-- Worlds by their state at each listed place.
use Rattle.std.specs.Prelude.{◌≡◌, ℕ, ◌<◌, Bool, true, false, cond, ◌||◌, List, [], ◌∷◌, ◌++◌, ℤ}
use Rattle.std.proofs.Common.{refl, sym, ap, ◌∙◌, subst, arith}
use Rattle.std.specs.List.{list_any}
use Rattle.std.specs.Ordering.{is_eq}
use Rattle.std.proofs.lemmas.Cmp.{tied_itself}
use Rattle.std.proofs.lemmas.Map.Views.{tells_apart}
use Rattle.worlds.specs.World.{World, Place, cell, put, blank, cell-put, cell-blank, same_place, places_total, places_exact}

-- the world with f at the listed places, and as w elsewhere
pub fill : List Place → (ℤ → ℤ → ℕ) → World → World
fill [] f w = w
fill (p ∷ ps) f w = fill ps f (put w p.1 p.0 (f p.1 p.0))

-- the world with f at the listed places, and 0 elsewhere
pub gather : List Place → (ℤ → ℤ → ℕ) → World
gather ps f = fill ps f blank

-- places that are the same are equal
pub same_is : (p q : Place) → same_place p q ≡ true → p ≡ q
same_is p q h = tells_apart places_exact p q h

-- and places with equal coordinates are the same
pub is_same : (p q : Place) → p.0 ≡ q.0 → p.1 ≡ q.1 → same_place p q ≡ true
is_same p q e f =
    let at : p ≡ q = λ i. (e i, f i) in
    subst (λ r. same_place p r ≡ true) at (ap (λ o. is_eq o) (tied_itself places_total p))

chosen : (b c : Bool) (s t n : ℕ) → (b ≡ true → s ≡ t) → cond c t (cond b s n) ≡ cond (b || c) t n
chosen true true s t n e = refl
chosen true false s t n e = e refl
chosen false c s t n e = refl

-- each state of a filled world
pub cell-fill : (ps : List Place) (f : ℤ → ℤ → ℕ) (w : World) (x y : ℤ)
    → cell (fill ps f w) x y ≡ cond (list_any (same_place (y, x)) ps) (f x y) (cell w x y)
unfolding fill
cell-fill [] f w x y = refl
cell-fill (p ∷ ps) f w x y =
    cell-fill ps f (put w p.1 p.0 (f p.1 p.0)) x y
    ∙ ap (cond (list_any (same_place (y, x)) ps) (f x y)) (cell-put w p.1 p.0 (f p.1 p.0) x y)
    ∙ chosen (same_place (y, x) p) (list_any (same_place (y, x)) ps) _ _ _
    (λ e. ap (λ (q : Place). f q.1 q.0) (sym (same_is (y, x) p e)))

-- no places
pub fill-none : (f : ℤ → ℤ → ℕ) (w : World) → fill [] f w ≡ w
unfolding fill
fill-none f w = refl

-- one list of places after another
pub fill-append : (ps qs : List Place) (f : ℤ → ℤ → ℕ) (w : World)
    → fill (ps ++ qs) f w ≡ fill qs f (fill ps f w)
unfolding fill
fill-append [] qs f w = refl
fill-append (p ∷ ps) qs f w = fill-append ps qs f (put w p.1 p.0 (f p.1 p.0))

-- one place
pub fill-one : (x y : ℤ) (f : ℤ → ℤ → ℕ) (w : World) → fill ((y, x) ∷ []) f w ≡ put w x y (f x y)
unfolding fill
fill-one x y f w = refl

by_cover : (b : Bool) (s : ℕ) → (0 < s → b ≡ true) → cond b s 0 ≡ s
by_cover true s h = refl
by_cover false s h = let dead : 0 < s → ⊥ = λ live. let e = h live in cc in omega (arith, dead)

-- where the list has each place at which f isn't 0
pub cell-gather : (ps : List Place) (f : ℤ → ℤ → ℕ)
    → ((x y : ℤ) → 0 < f x y → list_any (same_place (y, x)) ps ≡ true) → (x y : ℤ)
    → cell (gather ps f) x y ≡ f x y
unfolding gather
cell-gather ps f covers x y =
    cell-fill ps f blank x y
    ∙ ap (cond (list_any (same_place (y, x)) ps) (f x y)) (cell-blank x y)
    ∙ by_cover _ (f x y) (covers x y)
