-- The text of a window.
use Rattle.std.specs.Prelude.{◌≡◌, ℕ, zero, suc, ◌<◌, cond, List, [], ◌∷◌, ◌++◌, ℤ, pos, ◌+ℤ◌, map, length, get_or, ◌+◌, ◌*◌, codes, decimal}
use Rattle.std.specs.List.{join_with_byte, range_with_len, concat}
use Rattle.worlds.specs.declared.cell.Cell.{Cell}
use Rattle.worlds.specs.World.{World, cell, same_place}

-- the states of so many cells from (x, y) to the right, in decimal
abbrev pub row_states : World → ℤ → ℤ → ℕ → List (List ℕ)
row_states w x y width = map (λ k. decimal (cell w (x +ℤ pos k) y)) (range_with_len 0 width)

-- their line, with a space (32) between each two
abbrev pub row_line : World → ℤ → ℤ → ℕ → List ℕ
row_line w x y width = join_with_byte 32 (row_states w x y width) ++ codes "\n"

-- the lines of the rows of a rectangle, from the top
abbrev pub window_text : World → ℤ → ℤ → ℕ → ℕ → List ℕ
window_text w left top width height =
    concat (map (λ k. row_line w left (top +ℤ pos k) width) (range_with_len 0 height))

-- a state behind those of so many columns before it
abbrev pub next_state : ℕ → ℕ → List ℕ
next_state zero s = decimal s
next_state (suc k) s = codes " " ++ decimal s

-- the line of these states
abbrev pub line_of : List ℕ → List ℕ
line_of states = join_with_byte 32 (map decimal states) ++ codes "\n"

-- the state of the last of the cells at (x, y), or s where there is none
abbrev pub last_state : List Cell → ℤ → ℤ → ℕ → ℕ
last_state [] x y s = s
last_state (c ∷ cs) x y s = last_state cs x y (cond (same_place (y, x) (c.y, c.x)) c.state s)

-- the state of a column and a row in a list of the states of rows of so many columns
abbrev pub state_at : List ℕ → ℕ → ℕ → ℕ → ℕ
state_at states width column row = get_or states (row * width + column) 0

-- the cell is at a column, of so many from the left, and at a row from the top, of those that such
-- a list of so many states has
pub record IsIn (left top : ℤ) (width size : ℕ) (c : Cell) : Type 0 where
  pub column : ℕ
  pub row : ℕ
  pub across : c.x ≡ left +ℤ pos column
  pub down : c.y ≡ top +ℤ pos row
  pub narrow : column < width
  pub listed : row * width + column < size

-- a list has the states of a rectangle's places, row by row
pub record ShowsWindow (listed : List ℕ) (w : World) (left top : ℤ) (width height : ℕ) : Type 0 where
  pub size : length listed ≡ width * height
  pub states : (i j : ℕ) → i < width → j < height
      → state_at listed width i j ≡ cell w (left +ℤ pos i) (top +ℤ pos j)
