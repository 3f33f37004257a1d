-- Cells near a place, and how far activity spreads.
use Rattle.std.specs.Prelude.{◌≡◌, ℕ, ℤ, pos, neg_ℤ, ◌≤ℤ◌, ◌+ℤ◌}
use Rattle.worlds.specs.World.{World, cell}

-- (dx, dy) is at most r away from (0, 0), each coordinate by itself
pub record IsNear (r : ℕ) (dx dy : ℤ) : Type 0 where
  pub left : neg_ℤ (pos r) ≤ℤ dx
  pub right : dx ≤ℤ pos r
  pub top : neg_ℤ (pos r) ≤ℤ dy
  pub bottom : dy ≤ℤ pos r

-- up to r away from (x, y) v has what w has around (a, b)
abbrev pub AgreeNear : ℕ → World → ℤ → ℤ → World → ℤ → ℤ → Type 0
AgreeNear r v x y w a b =
    (dx dy : ℤ) → IsNear r dx dy → cell v (x +ℤ dx) (y +ℤ dy) ≡ cell w (a +ℤ dx) (b +ℤ dy)

-- no cell up to r away from (x, y) is live
abbrev pub NoneNear : ℕ → World → ℤ → ℤ → Type 0
NoneNear r w x y = (dx dy : ℤ) → IsNear r dx dy → cell w (x +ℤ dx) (y +ℤ dy) ≡ 0
