-- What a rule answers for neighbourhoods of the states 0 and 1.
use Rattle.std.specs.Prelude.{◌≡◌, ◌≢◌, ℕ, ◌/◌, ◌%◌, List, [], ◌∷◌, get_or}
use Rattle.hash_engine.specs.declared.asking.TheConstants.{UNKNOWN}

-- the states of the neighbourhood with this number, whose bits they are from the lowest on
abbrev pub states_of : ℕ → List ℕ
states_of n =
    n % 2 ∷ n / 2 % 2 ∷ n / 4 % 2 ∷ n / 8 % 2 ∷ n / 16 % 2 ∷ n / 32 % 2 ∷ n / 64 % 2 ∷ n / 128 % 2
    ∷ n / 256 % 2 ∷ []

-- what is kept for each is the rule's answer, or that it wasn't asked
pub record AreAnswers (meaning : List ℕ → ℕ) (known : List ℕ) : Type 0 where
  pub each : (n : ℕ) → get_or known n UNKNOWN ≢ UNKNOWN
      → get_or known n UNKNOWN ≡ meaning (states_of n)
