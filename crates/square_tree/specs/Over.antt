-- One quadtree laid on another of the same level.
use Rattle.std.specs.Prelude.{◌≡◌, ◌⊎◌, ℕ}
use Rattle.square_tree.specs.Quadtree.{Quadtree, keep, cell, quad, HasLevel, at}

-- what the first says, and where it says nothing what the second says
abbrev pub over : Quadtree → Quadtree → Quadtree
over keep t = t
over (cell s) t = cell s
over (quad nw ne sw se) keep = quad nw ne sw se
over (quad nw ne sw se) (cell s) = quad nw ne sw se
over (quad nw ne sw se) (quad nw' ne' sw' se') =
    quad (over nw nw') (over ne ne') (over sw sw') (over se se')

-- the new quadtree says of each cell what the old one says, or what it says once the other is laid
-- on it
pub record IsPartlyOver (other old new : Quadtree) : Type 0 where
  pub level : (l : ℕ) → HasLevel l other → HasLevel l old → HasLevel l new
  pub says : (l x y : ℕ)
      → (at new l x y ≡ at old l x y) ⊎ (at new l x y ≡ at (over other old) l x y)
