-- What is computed of a document.
use Rattle.std.specs.Prelude.{ℕ, List}
use Rattle.worlds.specs.World.{World}

-- a pattern, or the bytes of a text
pub data Value : Type 0 where
  pattern : World → Value
  text : List ℕ → Value
