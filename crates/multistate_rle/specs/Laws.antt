-- What the definitions are meant to say: each statement is proved by a function of the same name.
use Rattle.std.specs.Prelude.{◌≡◌, ℕ, ◌<◌, ◌≤◌, ◌^◌, List, Ok}
use Rattle.text_lines.specs.RuleNames.{IsName}
use Rattle.worlds.specs.World.{World}
use Rattle.worlds.specs.Live.{population}
use Rattle.worlds.specs.Range.{HasMargin, AllBelow}
use Rattle.multistate_rle.specs.Pattern.{pattern_of}
use Rattle.multistate_rle.specs.PatternText.{rle_text}

-- a world that can be written under a rule of so many states: in the range of planes, of states
-- below that number, and with at most 1,000,000 live cells
pub record CanBeWritten (states : ℕ) (w : World) : Type 0 where
  pub inside : HasMargin 0 w
  pub below : AllBelow states w
  pub few : population w ≤ 1000000

-- what is written means the world, the name and the generation that were written
abbrev pub WrittenMeansTheSame : Type 0
WrittenMeansTheSame =
    (w : World) (name : List ℕ) (generation states : ℕ) → IsName name → generation < 2 ^ 64
    → 2 ≤ states → states ≤ 256 → CanBeWritten states w
    → pattern_of (rle_text w name generation states)
    ≡ Ok (record { plane = w; rule_name = name; generation = generation })
