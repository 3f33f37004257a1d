-- The square that a bitmap draws, by its quadrants.
use Rattle.multistate_macrocell.proofs.Names.{Bitmap, Bool, ap, arith, cond, four, is_live, one, pow-suc, suc, sym, zero, ℕ, ◌*◌, ◌+◌, ◌<◌, ◌^◌, ◌∙◌, ◌≡◌, ◌≤◌}
use mir.Val.{bool_byte}
use Rattle.multistate_macrocell.specs.Quadtree.{drawn}

-- one cell
pub drawn-cell : (bitmap : Bitmap) (k x y n : ℕ) (live : Bool) → k ≡ 0 → is_live bitmap x y ≡ live → n ≡ cond live 1 0 → drawn bitmap k x y ≡ one n
unfolding drawn
drawn-cell bitmap zero x y n live e here is = ap (λ (b : Bool). one (cond b 1 0)) here ∙ ap one (sym is)
drawn-cell bitmap (suc k) x y n live e here is = absurd (omega (arith, e))

-- four quadrants
pub drawn-four : (bitmap : Bitmap) (level k x y h : ℕ) → level ≡ suc k → h ≡ 2 ^ k → drawn bitmap level x y ≡ four (drawn bitmap k x y) (drawn bitmap k (x + h) y) (drawn bitmap k x (y + h)) (drawn bitmap k (x + h) (y + h))
unfolding drawn
drawn-four bitmap level k x y h e is =
    ap (λ j. drawn bitmap j x y) e
    ∙ ap (λ n. four (drawn bitmap k x y) (drawn bitmap k (x + n) y) (drawn bitmap k x (y + n)) (drawn bitmap k (x + n) (y + n))) (sym is)

-- the quadrants of a square lie where it does
pub record FitsHalves (k x h : ℕ) : Type 0 where
  pub near : x + 2 ^ k ≤ 8
  pub far : (x + h) + 2 ^ k ≤ 8

pub halves : {level k x h : ℕ} → level ≡ suc k → h ≡ 2 ^ k → x + 2 ^ level ≤ 8 → FitsHalves k x h
halves {level} {k} e is fits =
    let double : 2 ^ level ≡ 2 ^ k * 2 = ap (λ j. 2 ^ j) e ∙ pow-suc 2 k in
    record { near = omega arith; far = omega arith }

-- a cell's state is a byte
pub record IsSmallCell (live : Bool) (n : ℕ) : Type 0 where
  pub below : n < 256
  pub is : n ≡ cond live 1 0

pub cell-small : (live : Bool) (n : ℕ) → n ≡ bool_byte live → IsSmallCell live n
cell-small live n e = grind arith
