-- What the count of yes answers tells of a computation that a stop may end.
use Rattle.std.specs.Prelude.{◌≡◌, ◌≢◌, ℕ, ◌+◌}

-- an answer is the one that says that it was stopped exactly where the stop said yes, and then once
pub record CountsStop {A : Type 0} (answer was_stopped : A) (before after : ℕ) : Type 0 where
  pub stopped : answer ≡ was_stopped → after ≡ before + 1
  pub went_on : answer ≢ was_stopped → after ≡ before
