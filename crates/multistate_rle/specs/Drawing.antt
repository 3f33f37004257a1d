-- A pattern that is drawn run by run; numbers that are greater stand at 2^64 - 1.
use Rattle.std.specs.Prelude.{◌≡◌, ◌⊎◌, ℕ, ◌+◌, ◌-◌, ◌^◌, ◌==◌, ◌&&◌, Bool, true, false, nat_le, nat_lt, min, List, [], ◌++◌, Result, Ok, Err, if◌then◌else◌}
use Rattle.worlds.specs.declared.cell.CellSet.{CellSet}
use Rattle.worlds.specs.Lay.{lay}
use Rattle.worlds.specs.World.{World, blank}
use Rattle.multistate_rle.specs.declared.comment.Origin.{Origin}
use Rattle.multistate_rle.specs.declared.fault.RleFault.{RleFault}
use Rattle.multistate_rle.specs.declared.fault.RleFault.TheVariants.{TooManyLive, CellOutOfRange, NoMemory}
use Rattle.multistate_rle.specs.Pattern.{Strip, lies_inside, cells_of_strip}

-- where the next run begins, how many live cells there were, whether all lie in the plane, whether
-- no growth was refused, and the cells that are kept
pub record Drawn : Type 0 where
  pub origin : Origin
  pub row : ℕ
  pub column : ℕ
  pub live : ℕ
  pub is_inside : Bool
  pub is_whole : Bool
  pub cells : List CellSet

-- nothing was drawn yet
abbrev pub undrawn : Origin → Drawn
undrawn origin =
    record {
      origin = origin;
      row = 0;
      column = 0;
      live = 0;
      is_inside = true;
      is_whole = true;
      cells = [];
    }

-- a number, or 2^64 - 1 if it is greater
abbrev pub capped : ℕ → ℕ
capped n = min n (2 ^ 64 - 1)

-- so many cells of a state, from where the next run begins
abbrev pub strip_at : Drawn → ℕ → ℕ → Strip
strip_at d n s = record { row = d.row; column = d.column; count = n; state = s }

-- after so many ends of rows
abbrev pub after_rows : Drawn → ℕ → Drawn
after_rows d n = record d { row = capped (d.row + n); column = 0 }

-- one strip more, which is kept where all that is drawn can be laid
abbrev pub with_strip : Drawn → Strip → Drawn
with_strip d strip =
    let live = capped (d.live + strip.count) in
    let is_inside = d.is_inside && lies_inside d.origin strip in
    record d {
      live = live;
      is_inside = is_inside;
      cells = if d.is_whole && (nat_le live 16777216 && is_inside)
          then d.cells ++ cells_of_strip d.origin strip else d.cells;
    }

-- the same without its cells, since a growth was refused
abbrev pub given_up : Drawn → Drawn
given_up d = record d { is_whole = false; cells = [] }

-- this drawing, with its cells or without them
abbrev pub IsLike : Drawn → Drawn → Type 0
IsLike d e = (e ≡ d) ⊎ (e ≡ given_up d)

-- after so many cells of a state
abbrev pub after_cells : Drawn → ℕ → ℕ → Drawn
after_cells d n s =
    let e = if s == 0 then d else with_strip d (strip_at d n s) in
    record e { column = capped (d.column + n) }

-- the world that was drawn, or why there is none
abbrev pub world_drawn : Drawn → Result World RleFault
world_drawn d =
    if nat_lt 16777216 d.live then Err TooManyLive else
    (if d.is_inside then (if d.is_whole then Ok (lay d.cells blank) else Err NoMemory)
    else Err CellOutOfRange)

-- it has no fault but NoMemory
abbrev pub WantsAlone : Result World RleFault → Type 0
WantsAlone (Ok w) = Unit {0}
WantsAlone (Err e) = e ≡ NoMemory
