-- The entries of a tree's nodes as they lie in memory.
use Rattle.std.specs.Prelude.{◌≡◌, ℕ, ◌+◌, ◌*◌, ◌/◌, ◌%◌, ◌<◌}
use Rattle.std.proofs.Common.{refl, arith}
use Rattle.decision_tree.specs.declared.entry.Entry.TheInside.{Inside}

-- an entry is below this
abbrev pub entry_range : ℕ
entry_range = 16777216

-- the number in three bytes
abbrev pub number_in : Inside → ℕ
number_in bytes = bytes.low + 256 * bytes.middle + 65536 * bytes.high

-- each of the three is a byte
pub record AreBytes (bytes : Inside) : Type 0 where
  pub low : bytes.low < 256
  pub middle : bytes.middle < 256
  pub high : bytes.high < 256

-- the three bytes of a number
abbrev pub bytes_of : ℕ → Inside
bytes_of number =
    record { low = number % 256; middle = number / 256 % 256; high = number / 65536 }

-- bytes are those of their number
pub same_bytes : (bytes : Inside) → AreBytes bytes → bytes_of (number_in bytes) ≡ bytes
same_bytes bytes are =
    let low : number_in bytes % 256 ≡ bytes.low = omega (arith, are.low, are.middle, are.high) in
    let middle : number_in bytes / 256 % 256 ≡ bytes.middle =
    omega (arith, are.low, are.middle, are.high) in
    let high : number_in bytes / 65536 ≡ bytes.high =
    omega (arith, are.low, are.middle, are.high) in
    rw (low, middle, high) refl
