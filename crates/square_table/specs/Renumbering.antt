-- New numbers of some squares of a table.
use Rattle.std.specs.Prelude.{ℕ, ◌+◌, ◌-◌, ◌^◌, ◌<◌, ◌≤◌, List, get_or, slice_set, nat_le, Option, None, Some, if◌then◌else◌}

-- new numbers are below this
abbrev pub known_range : ℕ
known_range = 33554432

-- what contracts see of a renumbering: the stamps by the numbers of squares, and the base from
-- which on they tell new numbers
pub record Stamps : Type 0 where
  pub stamps : List ℕ
  pub base : ℕ

-- the new number of a square, if it has one
abbrev pub known_of : Stamps → ℕ → Option ℕ
known_of r n = if nat_le r.base (get_or r.stamps n 0)
    then Some (get_or r.stamps n 0 - r.base) else None

-- the renumbering where the square with the number n has the new number m
abbrev pub with_known : Stamps → ℕ → ℕ → Stamps
with_known r n m = record { stamps = slice_set r.stamps n (r.base + m); base = r.base }

-- stamps are below a range above the base, which a word has room for
pub record IsWithin (stamps : List ℕ) (base : ℕ) : Type 0 where
  pub each : (n : ℕ) → get_or stamps n 0 < base + known_range
  pub room : base + known_range ≤ 2 ^ 32
