-- What contracts see of a quadtree.
use Rattle.std.specs.Prelude.{ℕ, ◌-◌, ◌^◌, List, [], ◌∷◌, ◌++◌, ℤ, pos, ◌+ℤ◌}
use Rattle.std.specs.FinMap as finite
use Rattle.square_tree.specs.Place.{Place, place_cmp}
use Rattle.square_tree.specs.Quadtree.{Quadtree, keep, cell, quad}
use Rattle.square_tree.specs.Cells.{Cells, least}

-- the places of which a quadtree says something, and their states, where its north-west corner lies
-- at (x, y)
unfoldable pub entries : Quadtree → ℕ → ℤ → ℤ → List (Place × ℕ)
entries keep l x y = []
entries (cell s) l x y = ((y, x), s) ∷ []
entries (quad nw ne sw se) l x y =
    let h = pos (2 ^ (l - 1)) in
    (entries nw (l - 1) x y ++ entries ne (l - 1) (x +ℤ h) y)
    ++ (entries sw (l - 1) x (y +ℤ h) ++ entries se (l - 1) (x +ℤ h) (y +ℤ h))

-- the states that a quadtree of the level says of places
unfoldable pub states_of : ℕ → Quadtree → finite.FinMap place_cmp ℕ
states_of l t = finite.from_entries (entries t l (least l) (least l))

-- its level and these
abbrev pub cells_of_tree : ℕ → Quadtree → Cells
cells_of_tree l t = record { level = l; states = states_of l t }
