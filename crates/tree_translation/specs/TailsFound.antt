-- What was found of what tails leave behind an input, and how it is marked.
use Rattle.std.specs.Prelude.{◌≡◌, ℕ, ◌<◌, Bool, true, false, nat_eq, List, All, length, slice_index_or}
use Rattle.std.specs.List.{list_any}
use Rattle.tree_translation.specs.declared.layers.Layer.{Layer}
use Rattle.tree_translation.specs.Layers.{IsLayer}
use Rattle.tree_translation.specs.Translation.{LeftOf}

-- whether a number is among these
abbrev pub is_in : ℕ → List ℕ → Bool
is_in n xs = list_any (nat_eq n) xs

-- each number is below the count of marks, and a mark that is true stands for one of the numbers
pub record AreMarked (marks : List Bool) (found : List ℕ) : Type 0 where
  pub marked : (k : ℕ) → k < length marks → slice_index_or marks k false ≡ true
      → is_in k found ≡ true
  pub inside : All (λ n. n < length marks) found

-- what was found of what tails leave, with its marks
pub record AreTailsFound (layer : Layer) (state : ℕ) (passed : List ℕ) (marks : List Bool)
    (found : List ℕ)
    : Type 0 where
  pub left : LeftOf layer state passed found
  pub rests : (count : ℕ) → IsLayer layer count → All (λ n. n < count) found
  pub marked : AreMarked marks found
