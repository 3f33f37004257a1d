-- Names of rules, as patterns have them.
use Rattle.std.specs.Prelude.{◌≢◌, ℕ, ◌<◌, ◌≤◌, List, length}
use Rattle.std.specs.List.{AllByRecursion}

-- a byte that a rule's name may have: printable, and neither a blank nor a colon
pub record IsNameByte (b : ℕ) : Type 0 where
  pub low : 33 ≤ b
  pub high : b ≤ 126
  pub other : b ≢ 58

-- one such byte or more
pub record IsName (name : List ℕ) : Type 0 where
  pub some : 0 < length name
  pub bytes : AllByRecursion IsNameByte name
