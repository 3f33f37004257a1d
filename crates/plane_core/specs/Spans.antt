-- Spans of cells, as they are drawn on a world.
use Rattle.std.specs.Prelude.{◌≡◌, ℕ, ◌<◌, ◌^◌, List, map, ℤ, pos, neg_ℤ, ◌+ℤ◌, ◌≤ℤ◌, ◌<ℤ◌}
use Rattle.std.specs.List.{flat_map, range_with_len}
use Rattle.worlds.specs.declared.cell.CellSet.{CellSet}
use Rattle.worlds.specs.World.{World}
use Rattle.worlds.specs.Lay.{lay}
use Rattle.plane_core.specs.declared.span.Span.{Span}

-- a span that a plane can have: in the range of planes, with a state below 256
pub record CanBeDrawn (s : Span) : Type 0 where
  pub left : neg_ℤ (pos (2 ^ 61)) ≤ℤ s.x
  pub right : (s.x +ℤ pos s.count) ≤ℤ pos (2 ^ 61)
  pub top : neg_ℤ (pos (2 ^ 61)) ≤ℤ s.y
  pub bottom : s.y <ℤ pos (2 ^ 61)
  pub state : s.state < 256

-- the k-th of its cells, counted from 0
abbrev pub cell_of : Span → ℕ → CellSet
cell_of s k = record { x = s.x +ℤ pos k; y = s.y; state = s.state }

-- its cells from the left
abbrev pub cells_of_span : Span → List CellSet
cells_of_span s = map (cell_of s) (range_with_len 0 s.count)

-- the cells of one span after another
abbrev pub cells_of_spans : List Span → List CellSet
cells_of_spans = flat_map cells_of_span

-- the world after spans are drawn in turn
abbrev pub drawn : List Span → World → World
drawn spans w = lay (cells_of_spans spans) w

-- (x, y) is the place of one of its cells
pub record Holds (s : Span) (x y : ℤ) : Type 0 where
  pub row : y ≡ s.y
  pub left : s.x ≤ℤ x
  pub right : x <ℤ (s.x +ℤ pos s.count)
