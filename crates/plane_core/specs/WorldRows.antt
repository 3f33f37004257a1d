-- The rows of a world, by its cells.
use Rattle.std.specs.Prelude.{ℕ, ◌+◌, ◌^◌, ◌&&◌, Bool, List, ℤ, pos, ◌+ℤ◌, int_le, int_lt}
use Rattle.std.specs.List.{list_all, position_or_len, range_with_len}
use Rattle.worlds.specs.World.{World}
use Rattle.worlds.specs.Live.{live}
use Rattle.worlds.specs.Square.{square_at}
use Rattle.plane_core.specs.declared.row.SquareRow.{SquareRow}
use Rattle.plane_core.specs.Rows.{completed, edge_of, written}

-- whether a coordinate lies in a root of level k
abbrev pub is_within : ℕ → ℤ → Bool
is_within k z = int_le (edge_of k) z && int_lt z (edge_of k +ℤ pos (2 ^ k))

-- whether a root of level k holds the live cells
abbrev pub holds_all : World → ℕ → Bool
holds_all w k = list_all (λ cell. is_within k cell.0.1 && is_within k cell.0.0) (live w)

-- the least level, of 1 to 62, of a root that holds the live cells
unfoldable pub least_level : World → ℕ
least_level w = 1 + position_or_len (holds_all w) (range_with_len 1 62)

-- the rows of a world: each distinct square that isn't empty once, in the order in which the walk
-- nw, ne, sw, se from the least root completes them; those of the empty world are one row of level
-- 1
unfoldable pub rows_of : World → List SquareRow
rows_of w = let k = least_level w in written (completed k (square_at w k (edge_of k) (edge_of k)))
