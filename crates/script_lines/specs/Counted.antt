-- What is counted of a writer.
use Rattle.std.specs.Prelude.{ℕ, List, Option, Bool, true}

-- a writer: what it holds, where that is known, how often it failed, and whether all that was
-- written was handed on
pub record CountedWriting (W : Type 0) : Type 0 where
  pub inner : W
  pub contents : Option (List ℕ)
  pub failures : ℕ
  pub flushed : Bool

-- nothing was written yet
abbrev pub fresh_writer : {W : Type 0} → (W → Option (List ℕ)) → W → CountedWriting W
fresh_writer contents inner =
    record { inner = inner; contents = contents inner; failures = 0; flushed = true }
