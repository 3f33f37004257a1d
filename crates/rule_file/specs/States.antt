-- How many states a rule has.
use Rattle.std.specs.Prelude.{ℕ, ◌≤◌, ◌&&◌, nat_le, if◌then◌else◌, List, Option, Some, None, option_and_then}
use Rattle.text_lines.specs.Numbers.{number_of}

-- a rule has so many states at least
abbrev pub least_states : ℕ
least_states = 2

-- and so many at most
abbrev pub most_states : ℕ
most_states = 256

-- a rule may have n states
abbrev pub MayHaveStates : ℕ → Type 0
MayHaveStates n = (least_states ≤ n) × (n ≤ most_states)

-- a number from `least` to `most`
abbrev pub number_within : ℕ → ℕ → List ℕ → Option ℕ
number_within least most value =
    option_and_then (λ n. if nat_le least n && nat_le n most then Some n else None)
    (number_of value)

-- how many states a value says
abbrev pub states_in : List ℕ → Option ℕ
states_in value = number_within least_states most_states value
