-- The text of a view of a pattern in run-length encoding.
use Rattle.std.specs.Prelude.{ℕ, List, nat_lt, if◌then◌else◌, codes}
use Rattle.worlds.specs.World.{World}
use Rattle.worlds.specs.Live.{population}
use Rattle.multistate_rle.specs.PatternText.{rle_text}

-- the pattern's text, or one line in its place where more than 1,000,000 cells are live
abbrev pub pattern_text : World → List ℕ → ℕ → ℕ → List ℕ
pattern_text w name generation states =
    if nat_lt 1000000 (population w) then codes "too many cells\n"
    else rle_text w name generation states
