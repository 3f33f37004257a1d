-- Beginnings of inputs, and what tells them apart.
use Rattle.std.specs.Prelude.{◌≡◌, ◌≢◌, ◌⊎◌, ℕ, ◌<◌, All, List, [], ◌++◌, length, slice_index_or}

-- a beginning of inputs for one of some functions, by its number
pub record Start : Type 0 where
  pub number : ℕ
  pub inputs : List ℕ

-- what these functions of so many inputs give behind two starts differs after some rest
pub record StartsDiffer (states depth : ℕ) (give : ℕ → List ℕ → ℕ) (first second : Start)
    : Type 0 where
  pub rest : List ℕ
  pub below : All (λ s. s < states) rest
  pub long : length (first.inputs ++ rest) ≡ depth
  pub other_long : length (second.inputs ++ rest) ≡ depth
  pub differ : give first.number (first.inputs ++ rest) ≢ give second.number (second.inputs ++ rest)

abbrev pub StartsApart : ℕ → ℕ → (ℕ → List ℕ → ℕ) → Start → Start → Type 0
StartsApart states depth give first second =
    (length first.inputs ≢ length second.inputs) ⊎ StartsDiffer states depth give first second

abbrev pub start_at : List Start → ℕ → Start
start_at starts k = slice_index_or starts k (record { number = 0; inputs = [] })

-- a start for one of so many functions, before their last input is given
pub record IsStart (states depth functions : ℕ) (start : Start) : Type 0 where
  pub there : start.number < functions
  pub below : All (λ s. s < states) start.inputs
  pub short : length start.inputs < depth

-- so many starts, of which each needs a node of its own
pub record NeedStarts (states depth : ℕ) (give : ℕ → List ℕ → ℕ) (functions count : ℕ)
    : Type 0 where
  pub starts : List Start
  pub many : length starts ≡ count
  pub are : (k : ℕ) → k < count → IsStart states depth functions (start_at starts k)
  pub apart : (i j : ℕ) → i < j → j < count
      → StartsApart states depth give (start_at starts i) (start_at starts j)
