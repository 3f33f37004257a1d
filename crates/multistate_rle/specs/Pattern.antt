-- Which pattern a file means, or the first fault that it has.
use Rattle.std.specs.Prelude.{◌≡◌, ◌≢◌, ◌⊎◌, IsTrue, IsOk, ℕ, ◌+◌, ◌-◌, ◌*◌, ◌^◌, ◌==◌, ◌&&◌, Bool, nat_lt, max, ℤ, pos, neg_ℤ, ◌+ℤ◌, int_le, int_lt, List, [], ◌∷◌, map, drop, sum_by, Result, Ok, Err, if◌then◌else◌}
use Rattle.std.specs.List.{flat_map, list_all, range_with_len}
use Rattle.text_lines.specs.Lines.{lines}
use Rattle.basics.specs.Results.{◌>>=◌}
use Rattle.worlds.specs.declared.cell.CellSet.{CellSet}
use Rattle.plane_core.specs.declared.loaded.Loaded.{Loaded}
use Rattle.worlds.specs.Lay.{lay}
use Rattle.worlds.specs.World.{World, blank}
use Rattle.multistate_rle.specs.declared.comment.Origin.{Origin}
use Rattle.multistate_rle.specs.declared.fault.RleFault.{RleFault}
use Rattle.multistate_rle.specs.declared.fault.RleFault.TheVariants.{BadRun, TooManyLive, CellOutOfRange, NoMemory}
use Rattle.multistate_rle.specs.declared.symbol.Symbol.{Symbol}
use Rattle.multistate_rle.specs.declared.symbol.Symbol.TheVariants.{Digit, Cell, RowEnd, End, Unknown}
use Rattle.multistate_rle.specs.Comments.{plain_origin}
use Rattle.multistate_rle.specs.Head.{head_from, is_placed}
use Rattle.multistate_rle.specs.Symbols.{solid_from, symbols}

-- so many cells of a state side by side, or so many ends of rows
pub data Run : Type 0 where
  Cells : (count state : ℕ) → Run
  RowEnds : (count : ℕ) → Run

-- runs that are read, with one more before them
abbrev pub onto : Run → Result (List Run) RleFault → Result (List Run) RleFault
onto run read = read >>= λ runs. Ok (run ∷ runs)

-- the runs that symbols write, where the digits before them write n, and a count of 0 or none is 1
abbrev pub runs_from : ℕ → List Symbol → Result (List Run) RleFault
runs_from n [] = Ok []
runs_from n (Digit d ∷ ss) = runs_from (n * 10 + d) ss
runs_from n (Cell s ∷ ss) = onto (Cells (max n 1) s) (runs_from 0 ss)
runs_from n (RowEnd ∷ ss) = onto (RowEnds (max n 1)) (runs_from 0 ss)
runs_from n (End ∷ ss) = Ok []
runs_from n (Unknown offset ∷ ss) = Err (BadRun offset)

-- live cells of one state side by side, by the row and the column of the first, counted from 0
pub record Strip : Type 0 where
  pub row : ℕ
  pub column : ℕ
  pub count : ℕ
  pub state : ℕ

-- the strips of some runs, of which the first begins at this row and column
abbrev pub strips_from : ℕ → ℕ → List Run → List Strip
strips_from row column [] = []
strips_from row column (RowEnds n ∷ runs) = strips_from (row + n) 0 runs
strips_from row column (Cells n s ∷ runs) =
    if s == 0 then strips_from row (column + n) runs
    else record { row = row; column = column; count = n; state = s }
    ∷ strips_from row (column + n) runs

-- how many cells some strips have
abbrev pub live_count : List Strip → ℕ
live_count strips = sum_by (λ strip. strip.count) strips

-- a coordinate that cells of a plane may have
abbrev pub is_in_range : ℤ → Bool
is_in_range z = int_le (neg_ℤ (pos (2 ^ 61))) z && int_lt z (pos (2 ^ 61))

-- the first and the last cell of a strip lie in the plane, where the pattern begins at the origin
abbrev pub lies_inside : Origin → Strip → Bool
lies_inside origin strip =
    is_in_range (origin.x +ℤ pos strip.column)
    && (is_in_range (origin.x +ℤ pos (strip.column + strip.count - 1))
    && is_in_range (origin.y +ℤ pos strip.row))

-- the k-th cell of a strip from the left, counted from 0
abbrev pub cell_at : Origin → Strip → ℕ → CellSet
cell_at origin strip k =
    record {
      x = origin.x +ℤ pos (strip.column + k);
      y = origin.y +ℤ pos strip.row;
      state = strip.state;
    }

-- the cells of a strip, from the left
abbrev pub cells_of_strip : Origin → Strip → List CellSet
cells_of_strip origin strip = map (cell_at origin strip) (range_with_len 0 strip.count)

-- the world of some strips: at most 16,777,216 cells, and all of them in the plane
abbrev pub world_of : Origin → List Strip → Result World RleFault
world_of origin strips =
    if nat_lt 16777216 (live_count strips) then Err TooManyLive else
    (if list_all (lies_inside origin) strips
    then Ok (lay (flat_map (cells_of_strip origin) strips) blank) else Err CellOutOfRange)

-- the world that the symbols of a body draw
abbrev pub drawn_by : Origin → List Symbol → Result World RleFault
drawn_by origin ss = runs_from 0 ss >>= λ runs. world_of origin (strips_from 0 0 runs)

-- the pattern that a file means
abbrev pub pattern_of : List ℕ → Result Loaded RleFault
pattern_of text = do
  head ← head_from plain_origin 0 (lines text)
  world ← drawn_by head.origin (symbols (solid_from head.len (drop head.len text)))
  Ok (record { plane = world; rule_name = head.name; generation = head.origin.generation })

-- NoMemory may be answered: the file has no fault, or just cells out of range that a comment places
abbrev pub MayWant : List ℕ → Type 0
MayWant text =
    IsOk (pattern_of text)
    ⊎ (IsTrue (is_placed (lines text)) × (pattern_of text ≡ Err CellOutOfRange))

-- a fault that a body has wherever its pattern lies; `NoMemory` stands for none
abbrev pub IsFaultAnywhere : RleFault → List Symbol → Type 0
IsFaultAnywhere fault ss = (origin : Origin) → fault ≢ NoMemory → drawn_by origin ss ≡ Err fault

-- a body that has no fault, or just cells out of range, wherever its pattern lies
abbrev pub HasNoFaultAnywhere : List Symbol → Type 0
HasNoFaultAnywhere ss =
    (origin : Origin) → IsOk (drawn_by origin ss) ⊎ (drawn_by origin ss ≡ Err CellOutOfRange)

-- the fault of a body, if its place has no part in it, and else `NoMemory`
abbrev pub unplaced : RleFault → RleFault
unplaced (BadRun offset) = BadRun offset
unplaced TooManyLive = TooManyLive
unplaced _ = NoMemory
