-- What a generation keeps.
use Rattle.std.proofs.Common.{◌≡◌, ℕ, suc, ◌<◌, ◌≤◌, ◌^◌, List, sym, subst, arith, ℤ, pos, neg_ℤ, ◌+ℤ◌, ◌-ℤ◌, ◌≤ℤ◌, ◌<ℤ◌, refl}
use Rattle.std.proofs.lemmas.Int.{ints, by_lt_z}
use Rattle.std.proofs.lemmas.List.Elements.{All-from_recursion}
use Rattle.worlds.specs.World.{World, cell}
use Rattle.worlds.specs.Step.{around, step, nine_zeros, AreNineBelow, cell-step}
use Rattle.worlds.specs.Near.{IsNear}
use Rattle.worlds.specs.Range.{HasMargin, AllBelow}
use Rattle.worlds.proofs.Shared.Local.{cell-step-none}

pub AreNineBelow-around : (n : ℕ) (w : World) → AllBelow n w → (x y : ℤ) → AreNineBelow n (around w x y)
AreNineBelow-around n w h x y = record {
  nine = refl;
  below = All-from_recursion (λ s. s < n) (around w x y) (h _ _, (h _ _, (h _ _, (h _ _, (h _ _, (h _ _, (h _ _, (h _ _, (h _ _, tt)))))))));
}

pub AllBelow-step : (n : ℕ) (next : List ℕ → ℕ) (w : World) → next nine_zeros ≡ 0 → ((states : List ℕ) → AreNineBelow n states → next states < n) → AllBelow n w → AllBelow n (step next w)
AllBelow-step n next w quiet below h x y = subst (λ s. s < n) (sym (cell-step next quiet w x y)) (below (around w x y) (AreNineBelow-around n w h x y))

-- a cell that is live after a step has one near it that was live before
stays : (next : List ℕ → ℕ) (w : World) → next nine_zeros ≡ 0 → (x y : ℤ) → ((dx dy : ℤ) → IsNear 1 dx dy → 0 < cell w (x +ℤ dx) (y +ℤ dy) → ⊥) → 0 < cell (step next w) x y → ⊥
stays next w quiet x y h live =
    let is : cell (step next w) x y ≡ 0 = cell-step-none next quiet w x y (λ dx dy near. let dead = h dx dy near in omega (arith, dead)) in
    omega arith

-- activity that has room for one more generation than n has room for n after a step
pub HasMargin-step : (n : ℕ) (next : List ℕ → ℕ) (w : World) → next nine_zeros ≡ 0 → HasMargin (suc n) w → HasMargin n (step next w)
HasMargin-step n next w quiet h x y live = record {
  left = by_lt_z (x -ℤ pos n) (neg_ℤ (pos (2 ^ 61))) (λ (low : (x -ℤ pos n) <ℤ neg_ℤ (pos (2 ^ 61))). absurd (stays next w quiet x y (λ dx dy near l. let k = (h _ _ l).left in let m = near.right in omega (arith, ints)) live)) (λ k. k);
  right = by_lt_z (x +ℤ pos n) (pos (2 ^ 61)) (λ k. k) (λ (high : pos (2 ^ 61) ≤ℤ (x +ℤ pos n)). absurd (stays next w quiet x y (λ dx dy near l. let k = (h _ _ l).right in let m = near.left in omega (arith, ints)) live));
  top = by_lt_z (y -ℤ pos n) (neg_ℤ (pos (2 ^ 61))) (λ (low : (y -ℤ pos n) <ℤ neg_ℤ (pos (2 ^ 61))). absurd (stays next w quiet x y (λ dx dy near l. let k = (h _ _ l).top in let m = near.bottom in omega (arith, ints)) live)) (λ k. k);
  bottom = by_lt_z (y +ℤ pos n) (pos (2 ^ 61)) (λ k. k) (λ (high : pos (2 ^ 61) ≤ℤ (y +ℤ pos n)). absurd (stays next w quiet x y (λ dx dy near l. let k = (h _ _ l).bottom in let m = near.top in omega (arith, ints)) live));
}

-- more room is room
pub HasMargin-less : (m n : ℕ) (w : World) → m ≤ n → HasMargin n w → HasMargin m w
HasMargin-less m n w le h x y live =
    let at = h x y live in
    record { left = omega (arith, ints, at.left); right = omega (arith, ints, at.right); top = omega (arith, ints, at.top); bottom = omega (arith, ints, at.bottom) }
