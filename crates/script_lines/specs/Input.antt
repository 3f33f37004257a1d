-- What a reader with a buffer has ahead.
use Rattle.std.specs.Prelude.{◌≡◌, ℕ, ◌+◌, ◌-◌, ◌^◌, ◌∷◌, [], ◌⊎◌, List, slice_range, MatchOption, Option}
use Rattle.std.specs.Io.KnownBytes.{prepend_known, Keeps, Consumes, IsAtEnd}
use Rattle.script_lines.specs.Ahead.{Ahead}
use Rattle.script_lines.specs.declared.input.Input.{Input}
use Rattle.script_lines.specs.declared.input.Unread.{Unread}

-- the bytes that are in the buffer, and then those that the reader gives
abbrev pub left : Option (List ℕ) → Input → Option (List ℕ)
left remaining input =
    prepend_known (slice_range input.bytes input.unread.at input.unread.end) remaining

-- how many bytes can still be taken
abbrev pub bytes_left : ℕ → Input → ℕ
bytes_left given input = (2 ^ 64 - 1 - given) + (input.unread.end - input.unread.at)

-- both of a reader that gave so many bytes
abbrev pub ahead : Option (List ℕ) → ℕ → Input → Ahead
ahead remaining given input = record { bytes = left remaining input; room = bytes_left given input }

-- a byte was taken, or there was none
abbrev pub GivesByte : Option ℕ → Option (List ℕ) → Option (List ℕ) → Type 0
GivesByte b old new = MatchOption b (IsAtEnd new × Keeps old new) (λ b. Consumes old new (b ∷ []))

-- one more failure, or 2^64 - 1 bytes have come
abbrev pub FailsOrFull : ℕ → ℕ → ℕ → Type 0
FailsOrFull old new given = (new ≡ old + 1) ⊎ (given ≡ 2 ^ 64 - 1)

-- nothing that was read is left
abbrev pub IsDrained : Unread → Type 0
IsDrained unread = unread.at ≡ unread.end
