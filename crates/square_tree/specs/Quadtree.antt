-- Quadtrees: what the tree of a patch says, whatever allocator it has.
use Rattle.std.specs.Prelude.{ℕ, ◌-◌, ◌^◌, ◌≡◌, ◌<◌, nat_lt, ◌==◌, ◌&&◌, if◌then◌else◌, Option, None, Some}
use Rattle.square_tree.specs.declared.tree.PatchTree.{PatchTree, Keep, Cell, Quad'}
use Rattle.square_tree.specs.declared.tree.Four.{Four}

-- a square that says nothing, the state of one cell, or the quadrants in the north-west,
-- north-east, south-west and south-east
pub data Quadtree : Type 0 where
  keep : Quadtree
  cell : ℕ → Quadtree
  quad : Quadtree → Quadtree → Quadtree → Quadtree → Quadtree

-- the quadtree that a patch's tree is
abbrev pub quadtree : {A : _} → PatchTree A → Quadtree
quadtree Keep = keep
quadtree (Cell s) = cell s
quadtree (Quad' p nw ne sw se) = quad (quadtree nw) (quadtree ne) (quadtree sw) (quadtree se)

-- the quadtree with these quadrants
abbrev pub quadtree_of_four : {A : _} → Four A → Quadtree
quadtree_of_four f = quad (quadtree f.nw) (quadtree f.ne) (quadtree f.sw) (quadtree f.se)

-- cells stand at the level 0 only, and each quadrant is one level below its square
abbrev pub HasLevel : ℕ → Quadtree → Type 0
HasLevel l keep = Unit {0}
HasLevel l (cell s) = l ≡ 0
HasLevel l (quad nw ne sw se) =
    (0 < l) × HasLevel (l - 1) nw × HasLevel (l - 1) ne × HasLevel (l - 1) sw × HasLevel (l - 1) se

-- what a quadtree of the level l says of the cell in column x and row y, counted from the
-- north-west corner
abbrev pub at : Quadtree → ℕ → ℕ → ℕ → Option ℕ
at keep l x y = None
at (cell s) l x y = if x == 0 && y == 0 then Some s else None
at (quad nw ne sw se) l x y =
    let h = 2 ^ (l - 1) in
    if nat_lt y h
    then (if nat_lt x h then at nw (l - 1) x y else at ne (l - 1) (x - h) y)
    else (if nat_lt x h then at sw (l - 1) x (y - h) else at se (l - 1) (x - h) (y - h))
