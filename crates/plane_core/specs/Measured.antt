-- What a plane keeps of its live cells: how many have each state, and where they lie.
use Rattle.std.specs.Prelude.{◌≡◌, ℕ, ◌<◌, ◌^◌, List, length, slice_index, sum, Option, None, Some}
use Rattle.worlds.specs.World.{World, blank}
use Rattle.worlds.specs.Live.{count_of, population}
use Rattle.worlds.specs.Range.{IsBoundingBox}
use Rattle.worlds.specs.declared.cell.Bounds.{Bounds}

-- the least box that holds the live cells, None where no cell is live
abbrev pub AreBoundsOf : World → Option Bounds → Type 0
AreBoundsOf w None = w ≡ blank
AreBoundsOf w (Some b) = IsBoundingBox b w

-- by state, how many live cells have it; all together are few enough for a number of 128 bits
pub record AreCountsOf (w : World) (counts : List ℕ) : Type 0 where
  pub states : length counts ≡ 256
  pub each : (s : ℕ) → s < 256 → slice_index counts s ≡ count_of w s
  pub all : sum counts ≡ population w
  pub few : population w < 2 ^ 128

-- the counts and the bounds of a world
pub record AreMeasuredOf (w : World) (states : List ℕ) (box : Option Bounds) : Type 0 where
  pub counts : AreCountsOf w states
  pub bounds : AreBoundsOf w box

-- no greater state than s is counted, and s is, unless it is 0
pub record IsLastCounted (counts : List ℕ) (s : ℕ) : Type 0 where
  pub state : s < 256
  pub none_above : (r : ℕ) → s < r → r < 256 → slice_index counts r ≡ 0
  pub counted : 0 < s → 0 < slice_index counts s
