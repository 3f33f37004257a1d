-- What is ahead of a reader.
use Rattle.std.specs.Prelude.{◌≡◌, ℕ, ◌+◌, ◌-◌, ◌^◌, List, Option, length}
use Rattle.std.specs.Io.KnownBytes.{Consumes}

-- the bytes not taken yet, where they are known, and how many can still be taken before 2^64 - 1
pub record Ahead : Type 0 where
  pub bytes : Option (List ℕ)
  pub room : ℕ

-- these bytes were taken
pub record TakesBytes (old new : Ahead) (bs : List ℕ) : Type 0 where
  pub consumed : Consumes old.bytes new.bytes bs
  pub counted : new.room + length bs ≡ old.room

-- a reader of lines: the reader that it stands on, what is ahead of it, how many lines of the
-- script were taken, how many bytes the reader gave, and how often it failed
pub record LineReading (R : Type 0) : Type 0 where
  pub inner : R
  pub ahead : Ahead
  pub lines : ℕ
  pub given : ℕ
  pub failures : ℕ

-- nothing was read yet of a reader that has this left
abbrev pub all_ahead : Option (List ℕ) → Ahead
all_ahead remaining = record { bytes = remaining; room = 2 ^ 64 - 1 }

abbrev pub fresh_reader : {R : Type 0} → (R → Option (List ℕ)) → R → LineReading R
fresh_reader remaining inner =
    record
    { inner = inner; ahead = all_ahead (remaining inner); lines = 0; given = 0; failures = 0 }

-- all that was read was taken
pub record IsDrawn {R : Type 0} (remaining : R → Option (List ℕ)) (reader : LineReading R) : Type 0
  where
    pub bytes : reader.ahead.bytes ≡ remaining reader.inner
    pub room : reader.ahead.room ≡ 2 ^ 64 - 1 - reader.given
