-- What the counts of states say of a world.
use Rattle.plane_core.proofs.Names.{AllBelow, AllByRecursion, AreBoundsOf, AreCountsOf, Bounds, IsGreatest, IsLastCounted, IsNone, List, Option, Place, World, [], ap, ap₂, arith, blank, by_place, cell, cell-blank, cell-state_at, cond}
use Rattle.plane_core.proofs.Names.{count_of, eq-eqb, false, get_or-replicate, length-replicate, live, live-states, ne_eqb, pos, refl, replicate, slice_index, sum_by-cons, sum_by-replicate, sym, ℕ, ℤ, ◌+◌, ◌<◌, ◌==◌, ◌↔◌, ◌∙◌, ◌∷◌, ◌≡◌}
use Rattle.plane_core.proofs.Names.{◌≤◌}
use Rattle.std.specs.List.{count_by}
use Rattle.plane_core.proofs.Totals.{population-blank}

-- a state that no live cell has
absent : (w : World) (s : ℕ) (es : List (Place × ℕ)) → ((x y : ℤ) → 0 < cell w x y → cell w x y ≡ s → ⊥) → AllByRecursion (λ (e : Place × ℕ). (cell w e.0.1 e.0.0 ≡ e.1) × (0 < e.1)) es → count_by (λ (e : Place × ℕ). e.1 == s) es ≡ 0
absent w s [] none known = refl
absent w s (e ∷ es) none known =
    let is : cell w e.0.1 e.0.0 ≡ e.1 = known.0.0 in
    let other : e.1 ≡ s → ⊥ = λ h. none e.0.1 e.0.0 (omega arith) (is ∙ h) in
    let test : (e.1 == s) ≡ false = ne_eqb e.1 s other in
    sum_by-cons (λ (d : Place × ℕ). cond (d.1 == s) 1 0) e es
    ∙ ap₂ (λ a b. a + b) (ap (λ b. cond b 1 0) test) (absent w s es none known.1)

count-absent : (w : World) (s : ℕ) → ((x y : ℤ) → 0 < cell w x y → cell w x y ≡ s → ⊥) → count_of w s ≡ 0
count-absent w s none = absent w s (live w) none (live-states w)

-- no live cell has the state 0
pub count-zero : (w : World) → count_of w 0 ≡ 0
count-zero w = count-absent w 0 (λ x y live e. absurd (omega (arith, live, e)))

-- entries none of which has the state s
present : (s : ℕ) (es : List (Place × ℕ)) → count_by (λ (e : Place × ℕ). e.1 == s) es ≡ 0 → AllByRecursion (λ (e : Place × ℕ). e.1 ≡ s → ⊥) es
present s [] none = tt
present s (e ∷ es) none =
    let more = sum_by-cons (λ (d : Place × ℕ). cond (d.1 == s) 1 0) e es in
    (grind (arith, eq-eqb), present s es (omega arith))

-- the state of a live cell is counted
count-present : (w : World) (x y : ℤ) → 0 < cell w x y → 0 < count_of w (cell w x y)
count-present w x y some =
    let at = cell-state_at w x y in
    let none : count_of w (cell w x y) ≡ 0 → ⊥ = λ none. by_place (live w) (λ a b n. n ≡ cell w x y → ⊥) (present (cell w x y) (live w) none) x y (omega arith) (sym at) in
    omega arith

-- the greatest state is the last one that is counted
pub greatest-counted : (w : World) (counts : List ℕ) (s : ℕ) → AllBelow 256 w → AreCountsOf w counts → IsLastCounted counts s → IsGreatest w s
greatest-counted w counts s small is last = record {
  least = λ n below.
      let at = below (pos 0) (pos 0) in
      let each = is.each s last.state in
      let none : n ≤ s → count_of w s ≡ 0 = λ more. count-absent w s (λ x y live e. let here = below x y in absurd (omega arith)) in
      grind (arith);
  above = λ x y.
      let here = small x y in
      let each = is.each (cell w x y) here in
      let none : s < cell w x y → slice_index counts (cell w x y) ≡ 0 = λ more. last.none_above (cell w x y) more here in
      let some : 0 < cell w x y → 0 < count_of w (cell w x y) = λ live. count-present w x y live in
      grind (arith);
}

-- no cell of the blank world is counted
pub counts-blank : AreCountsOf blank (replicate 256 0)
counts-blank = record {
  states = length-replicate {A = ℕ} 256 0;
  each = λ s h. get_or-replicate 256 s 0 0 h ∙ sym (count-absent blank s (λ x y live e. let dead = cell-blank x y in absurd (omega arith)));
  all = sum_by-replicate (λ x. x) 256 0 ∙ sym population-blank;
  few = omega (arith, population-blank);
}

-- there are no bounds just where no cell is live
pub none-blank : (w : World) (o : Option Bounds) → AreBoundsOf w o → IsNone o ↔ (w ≡ blank)
none-blank w o h = grind (arith, cell-blank)
