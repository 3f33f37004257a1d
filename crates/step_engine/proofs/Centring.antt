-- Squares round the origin: with more room round them, and some generations later.
use Rattle.step_engine.proofs.Names.{IsCentred, IsIn, LiesWithin, List, Square, World, ap, arith, cell, edge, ints, iterate, neg_ℤ, nine_zeros, one, padded, pos, refl, step, subst, suc, zero, ℕ, ℤ, ◌+ℤ◌, ◌+◌, ◌<◌, ◌^◌, ◌∙◌, ◌≡◌, ◌≤ℤ◌, ◌≤◌}
use Rattle.worlds.specs.Square.{empty_square, square_at}
use Rattle.hash_life_laws.specs.Result.{result}
use Rattle.hash_life_laws.proofs.Shared.Grids.{same_square, joined, sixteen}
use Rattle.hash_life_laws.proofs.Shared.Steps.{result-steps}

-- where no cell is live the square is empty
square_at-empty : (w : World) (k : ℕ) (x y : ℤ) → ((a b : ℤ) → IsIn (2 ^ k) x y a b → 0 < cell w a b → ⊥) → square_at w k x y ≡ empty_square k
unfolding square_at empty_square
square_at-empty w zero x y dead = let none = dead x y (omega (arith, ints)) in ap one (omega (arith, none))
square_at-empty w (suc k) x y dead =
    let double : 2 ^ suc k ≡ 2 ^ k + 2 ^ k = omega arith in
    let part : (l t : ℤ) → x ≤ℤ l → l ≤ℤ (x +ℤ pos (2 ^ k)) → y ≤ℤ t → t ≤ℤ (y +ℤ pos (2 ^ k)) → square_at w k l t ≡ empty_square k =
    λ l t a b c d. square_at-empty w k l t (λ p q at live. dead p q (omega (arith, ints)) live) in
    let nw = part x y (omega (arith, ints)) (omega (arith, ints)) (omega (arith, ints)) (omega (arith, ints)) in
    let ne = part (x +ℤ pos (2 ^ k)) y (omega (arith, ints)) (omega (arith, ints)) (omega (arith, ints)) (omega (arith, ints)) in
    let sw = part x (y +ℤ pos (2 ^ k)) (omega (arith, ints)) (omega (arith, ints)) (omega (arith, ints)) (omega (arith, ints)) in
    let se = part (x +ℤ pos (2 ^ k)) (y +ℤ pos (2 ^ k)) (omega (arith, ints)) (omega (arith, ints)) (omega (arith, ints)) (omega (arith, ints)) in
    cc

pub edge-suc : (k : ℕ) → edge (suc k) ≡ neg_ℤ (pos (2 ^ k))
edge-suc k = ap (λ n. neg_ℤ (pos (2 ^ n))) (omega arith)

padded-square : (w : World) (k : ℕ) (s : Square) → IsCentred w (suc k) s → padded k s ≡ square_at w (suc (suc k)) (edge (suc (suc k))) (edge (suc (suc k)))
padded-square w k s is =
    let h = pos (2 ^ k) in
    let x0 = edge (suc (suc k)) in let x1 = x0 +ℤ h in let x2 = x1 +ℤ h in let x3 = x2 +ℤ h in
    let double : 2 ^ suc k ≡ 2 ^ k + 2 ^ k = omega arith in
    let begin : x0 ≡ neg_ℤ (pos (2 ^ suc k)) = edge-suc (suc k) in
    let at1 : edge (suc k) ≡ x1 = let e = edge-suc k in omega (arith, ints) in
    let out : (l t : ℤ) → ((a b : ℤ) → IsIn (2 ^ k) l t a b → IsIn (2 ^ suc k) x1 x1 a b → ⊥) → square_at w k l t ≡ empty_square k =
    λ l t apart. square_at-empty w k l t (λ a b at live. apart a b at (subst (λ e. IsIn (2 ^ suc k) e e a b) at1 (is.inside a b live))) in
    let left = λ (t : ℤ). out x0 t (λ p q at near. omega (arith, ints)) in
    let right = λ (t : ℤ). out x3 t (λ p q at near. omega (arith, ints)) in
    let top = λ (l : ℤ). out l x0 (λ p q at near. omega (arith, ints)) in
    let bottom = λ (l : ℤ). out l x3 (λ p q at near. omega (arith, ints)) in
    let whole = sixteen w k x0 x1 x2 x3 x0 x1 x2 x3 refl refl refl refl refl refl in
    ap (padded k) (is.square ∙ ap (λ e. square_at w (suc k) e e) at1 ∙ joined w k x1 x2 x1 x2 refl refl)
    ∙ cc (left x0, left x1, left x2, left x3, right x0, right x1, right x2, right x3, top x1, top x2, bottom x1, bottom x2)

-- a square with empty ones round it has the same world
pub IsCentred-padded : (w : World) (k : ℕ) (s : Square) → IsCentred w (suc k) s → IsCentred w (suc (suc k)) (padded k s)
IsCentred-padded w k s is =
    let double : 2 ^ suc k ≡ 2 ^ k + 2 ^ k = omega arith in
    let twice : 2 ^ suc (suc k) ≡ 2 ^ suc k + 2 ^ suc k = omega arith in
    let e1 = edge-suc k in
    let e2 = edge-suc (suc k) in
    record { square = padded-square w k s is; inside = λ x y live. let at = is.inside x y live in omega (arith, ints) }

-- the result of a square is that of its world some generations later, where this comes no further
pub IsCentred-result : (next : List ℕ → ℕ) → next nine_zeros ≡ 0 → (w : World) (k n : ℕ) (s : Square) → n ≤ 2 ^ k → IsCentred w (suc (suc k)) s → LiesWithin (2 ^ k) (iterate n (step next) w)
    → IsCentred (iterate n (step next) w) (suc k) (result next k n s)
IsCentred-result next quiet w k n s few is near =
    let double : 2 ^ suc k ≡ 2 ^ k + 2 ^ k = omega arith in
    let e1 = edge-suc k in
    let e2 = edge-suc (suc k) in
    let moved : edge (suc (suc k)) +ℤ pos (2 ^ k) ≡ edge (suc k) = omega (arith, ints) in
    record {
      square = ap (result next k n) is.square ∙ result-steps next quiet w k n (edge (suc (suc k))) (edge (suc (suc k))) few ∙ same_square _ (suc k) _ _ _ _ moved moved;
      inside = λ x y live. let at = near x y live in omega (arith, ints);
    }
