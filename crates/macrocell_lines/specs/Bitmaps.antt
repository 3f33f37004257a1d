-- Squares of 8 by 8 cells, and the lines that draw them.
use Rattle.std.specs.Prelude.{ℕ, zero, suc, ◌+◌, ◌*◌, ◌/◌, ◌%◌, ◌^◌, ◌==◌, ◌&&◌, ◌||◌, Bool, nat_le, if◌then◌else◌, List, [], ◌∷◌, length, replicate, slice_index, Option, Some, None}
use Rattle.std.specs.List.{list_all}
use Rattle.std.specs.Option.{option_map}
use Rattle.macrocell_lines.specs.declared.bitmap.Bitmap.{Bitmap}
use Rattle.macrocell_lines.specs.Pieces.{◌>>=◌, pieces}

-- whether the cell at a column and a row is live
abbrev pub is_live : Bitmap → ℕ → ℕ → Bool
is_live bitmap x y = (slice_index bitmap.rows y / 2 ^ x) % 2 == 1

-- a dead or a live cell
abbrev pub is_cell : ℕ → Bool
is_cell b = (b == 46) || (b == 42)

-- the bits of some cells, of which the first is the lowest; it is set where the cell is live
abbrev pub row_bits : List ℕ → ℕ
row_bits [] = 0
row_bits (b ∷ bs) = 2 * row_bits bs + (if b == 42 then 1 else 0)

-- a row has at most eight cells; those that are left out at its end are dead
abbrev pub row_of : List ℕ → Option ℕ
row_of text = if nat_le (length text) 8 && list_all is_cell text then Some (row_bits text) else None

-- so many rows, of which those that are left out at the end are dead; behind them no row has a cell
abbrev pub rows_of : ℕ → List (List ℕ) → Option (List ℕ)
rows_of due [] = Some (replicate due 0)
rows_of zero (text ∷ texts) = if length text == 0 then rows_of zero texts else None
rows_of (suc due) (text ∷ texts) =
    row_of text >>= λ row. option_map (λ rows. row ∷ rows) (rows_of due texts)

-- the square that a line draws, whose rows end with $
abbrev pub bitmap_of : List ℕ → Option Bitmap
bitmap_of line = option_map (λ rows. record { rows = rows }) (rows_of 8 (pieces 36 line))
