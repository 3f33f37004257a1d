-- What laying cells and letting generations pass keep of a world: room to the edges, and states below the rule's.
use Rattle.std.proofs.Common.{◌≡◌, ℕ, zero, suc, ◌-◌, ◌<◌, ◌≤◌, Bool, true, false, cond, List, [], ◌∷◌, sym, subst, arith, refl, ℤ}
use Rattle.std.specs.List.{AllByRecursion}
use Rattle.std.proofs.lemmas.Int.{ints}
use Rattle.worlds.specs.declared.cell.CellSet.{CellSet}
use Rattle.worlds.specs.World.{World, Place, cell, same_place}
use Rattle.worlds.specs.Fill.{same_is}
use Rattle.worlds.specs.Lay.{lay, last_mention, cell-lay}
use Rattle.worlds.specs.Step.{nine_zeros, AreNineBelow}
use Rattle.worlds.specs.Range.{IsInside, HasMargin, AllBelow}
use Rattle.worlds.specs.Arrival.{arrive, after}
use Rattle.worlds.proofs.Shared.Stepped.{AllBelow-step, HasMargin-step}

chosen : (b : Bool) (s t : ℕ) (P : ℕ → Type 0) → (b ≡ true → P s) → P t → P (cond b s t)
chosen true s t P here there = here refl
chosen false s t P here there = there

inside_mention : (m : ℕ) (cs : List CellSet) (x y : ℤ) (s : ℕ) → AllByRecursion (λ c. IsInside m c.x c.y) cs → (0 < s → IsInside m x y) → 0 < last_mention cs x y s → IsInside m x y
inside_mention m [] x y s all live = live
inside_mention m (c ∷ cs) x y s all live =
    inside_mention m cs x y (cond (same_place (y, x) (c.y, c.x)) c.state s) all.1
    (chosen (same_place (y, x) (c.y, c.x)) c.state s (λ t. 0 < t → IsInside m x y)
    (λ same _. subst (λ (p : Place). IsInside m p.1 p.0) (sym (same_is (y, x) (c.y, c.x) same)) all.0)
    live)

-- cells that have the room are laid on a world that has it
pub HasMargin-lay : (m : ℕ) (cs : List CellSet) (w : World) → AllByRecursion (λ c. IsInside m c.x c.y) cs → HasMargin m w → HasMargin m (lay cs w)
HasMargin-lay m cs w all h x y live = inside_mention m cs x y (cell w x y) all (h x y) (subst (λ s. 0 < s) (cell-lay cs w x y) live)

below_mention : (n : ℕ) (cs : List CellSet) (x y : ℤ) (s : ℕ) → AllByRecursion (λ c. c.state < n) cs → s < n → last_mention cs x y s < n
below_mention n [] x y s all h = h
below_mention n (c ∷ cs) x y s all h = below_mention n cs x y (cond (same_place (y, x) (c.y, c.x)) c.state s) all.1 (chosen (same_place (y, x) (c.y, c.x)) c.state s (λ t. t < n) (λ _. all.0) h)

-- states below n are laid on states below n
pub AllBelow-lay : (n : ℕ) (cs : List CellSet) (w : World) → AllByRecursion (λ c. c.state < n) cs → AllBelow n w → AllBelow n (lay cs w)
AllBelow-lay n cs w all h x y = subst (λ s. s < n) (sym (cell-lay cs w x y)) (below_mention n cs x y (cell w x y) all (h x y))

-- room is room for less
pub IsInside-less : (m n : ℕ) (x y : ℤ) → m ≤ n → IsInside n x y → IsInside m x y
IsInside-less m n x y le at = record { left = omega (arith, ints, at.left); right = omega (arith, ints, at.right); top = omega (arith, ints, at.top); bottom = omega (arith, ints, at.bottom) }

pub AreInside-less : (cs : List CellSet) (m n : ℕ) → m ≤ n → AllByRecursion (λ c. IsInside n c.x c.y) cs → AllByRecursion (λ c. IsInside m c.x c.y) cs
AreInside-less [] m n le h = tt
AreInside-less (c ∷ cs) m n le h = (IsInside-less m n c.x c.y le h.0, AreInside-less cs m n le h.1)

-- at each generation up to `far` a pattern that began with that much room has what is left of it
pub HasMargin-arrive : (next : List ℕ → ℕ) → next nine_zeros ≡ 0 → (cells : ℕ → List CellSet) (start : World) (far : ℕ) → ((k : ℕ) → AllByRecursion (λ c. IsInside far c.x c.y) (cells k)) → HasMargin far start
    → (g : ℕ) → g ≤ far → HasMargin (far - g) (arrive next cells start g)
unfolding arrive
HasMargin-arrive next quiet cells start far inside h zero le = let all : far ≡ far - 0 = omega arith in subst (λ m. HasMargin m start) all h
HasMargin-arrive next quiet cells start far inside h (suc g) le =
    let room : far - g ≡ suc (far - suc g) = omega arith in
    let before = HasMargin-arrive next quiet cells start far inside h g (omega arith) in
    let laid = HasMargin-lay (far - g) (cells g) _ (AreInside-less (cells g) (far - g) far (omega arith) (inside g)) before in
    HasMargin-step (far - suc g) next (after next cells start g) quiet (subst (λ m. HasMargin m (after next cells start g)) room laid)

-- at each generation the states are below the rule's
pub AllBelow-arrive : (next : List ℕ → ℕ) → next nine_zeros ≡ 0 → (n : ℕ) → ((states : List ℕ) → AreNineBelow n states → next states < n)
    → (cells : ℕ → List CellSet) (start : World) → ((k : ℕ) → AllByRecursion (λ c. c.state < n) (cells k)) → AllBelow n start → (g : ℕ) → AllBelow n (arrive next cells start g)
unfolding arrive
AllBelow-arrive next quiet n below cells start all h zero = h
AllBelow-arrive next quiet n below cells start all h (suc g) =
    AllBelow-step n next (after next cells start g) quiet below (AllBelow-lay n (cells g) _ (all g) (AllBelow-arrive next quiet n below cells start all h g))
