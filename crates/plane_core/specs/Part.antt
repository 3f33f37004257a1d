-- Squares that stand at places of a world, and their quadrants.
use Rattle.std.specs.Prelude.{◌≡◌, ℕ, ◌+◌, ◌-◌, ◌%◌, ◌<◌, ◌≤◌, ◌^◌, ◌==◌, nat_le, cond, List, length, ℤ, pos, neg_ℤ, ◌+ℤ◌, ◌≤ℤ◌, int_le}
use Rattle.worlds.specs.World.{World, cell}
use Rattle.worlds.specs.Square.{cell_in, IsIn}
use Rattle.plane_core.specs.declared.row.SquareRow.{SquareRow}
use Rattle.plane_core.specs.declared.part.Part.{Part}
use Rattle.plane_core.specs.Rows.{IsNumber, AreRows, square_in, root_level, edge_of, world_of_rows}

-- a coordinate in the range of planes, with so far to go in it
pub record IsFrom (start : ℤ) (far : ℕ) : Type 0 where
  pub low : neg_ℤ (pos (2 ^ 61)) ≤ℤ start
  pub high : (start +ℤ pos far) ≤ℤ pos (2 ^ 61)

-- (x, y) lies in the square
abbrev pub Covers : Part → ℤ → ℤ → Type 0
Covers p x y = IsIn (2 ^ p.level) p.corner.x p.corner.y x y

-- the square lies in the range of planes
pub record IsOnPlane (p : Part) : Type 0 where
  pub level : p.level ≤ 62
  pub across : IsFrom p.corner.x (2 ^ p.level)
  pub down : IsFrom p.corner.y (2 ^ p.level)

-- a square of the rows that lies in the range of planes
pub record IsPart (rows : List SquareRow) (p : Part) : Type 0 where
  pub valid : AreRows rows
  pub number : IsNumber rows p.level p.number
  pub on_plane : IsOnPlane p

-- its cells are those of the world at their places
pub record Shows (w : World) (rows : List SquareRow) (p : Part) : Type 0 where
  pub cells : (i j : ℕ) → i < 2 ^ p.level → j < 2 ^ p.level
      → cell w (p.corner.x +ℤ pos i) (p.corner.y +ℤ pos j)
      ≡ cell_in p.level (square_in rows p.level p.number) i j

-- the root of rows, which shows their world
pub record IsRoot (rows : List SquareRow) (p : Part) : Type 0 where
  pub part : IsPart rows p
  pub low : 1 ≤ p.level
  pub level : p.level ≡ root_level rows
  pub number : p.number ≡ length rows
  pub x : p.corner.x ≡ edge_of (root_level rows)
  pub y : p.corner.y ≡ edge_of (root_level rows)
  pub shows : Shows (world_of_rows rows) rows p

-- how far the quadrant nw, ne, sw or se, of this side, lies from the left edge of its square
abbrev pub east : ℕ → ℕ → ℕ
east half q = cond (q % 2 == 1) half 0

-- and from the upper edge
abbrev pub south : ℕ → ℕ → ℕ
south half q = cond (nat_le 2 q) half 0

-- which quadrant of the square holds (x, y)
abbrev pub quadrant_at : Part → ℤ → ℤ → ℕ
quadrant_at p x y =
    let half = pos (2 ^ (p.level - 1)) in
    cond (int_le (p.corner.y +ℤ half) y) (cond (int_le (p.corner.x +ℤ half) x) 3 2)
    (cond (int_le (p.corner.x +ℤ half) x) 1 0)

-- n names the q-th quadrant
pub record IsKid (rows : List SquareRow) (p : Part) (q n : ℕ) : Type 0 where
  pub number : IsNumber rows (p.level - 1) n
  pub cells : (i j : ℕ) → i < 2 ^ (p.level - 1) → j < 2 ^ (p.level - 1)
      → cell_in p.level (square_in rows p.level p.number) (east (2 ^ (p.level - 1)) q + i)
      (south (2 ^ (p.level - 1)) q + j)
      ≡ cell_in (p.level - 1) (square_in rows (p.level - 1) n) i j

-- r stands where the q-th quadrant of p does
pub record IsQuadrant (q : ℕ) (p r : Part) : Type 0 where
  pub level : r.level ≡ p.level - 1
  pub x : r.corner.x ≡ p.corner.x +ℤ pos (east (2 ^ (p.level - 1)) q)
  pub y : r.corner.y ≡ p.corner.y +ℤ pos (south (2 ^ (p.level - 1)) q)
