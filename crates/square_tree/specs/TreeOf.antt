-- What the tree of a patch says of places.
use Rattle.std.specs.Prelude.{◌≡◌, ℕ, ℤ, pos, ◌+ℤ◌, ◌<ℤ◌, None}
use Rattle.square_tree.specs.Quadtree.{Quadtree, HasLevel, at}
use Rattle.square_tree.specs.Cells.{Cells, least, state_at}

-- the quadtree, of the level k, says of each cell of the square round (0, 0) what the cells say,
-- and these say nothing to its west and north
pub record IsTreeOf (c : Cells) (k : ℕ) (t : Quadtree) : Type 0 where
  pub level : HasLevel k t
  pub says : (x y : ℕ) → at t k x y ≡ state_at c (least k +ℤ pos x) (least k +ℤ pos y)
  pub west : (x y : ℤ) → x <ℤ least k → state_at c x y ≡ None
  pub north : (x y : ℤ) → y <ℤ least k → state_at c x y ≡ None
