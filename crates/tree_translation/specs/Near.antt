-- The tails of a list that matter to some states, and states that tails treat alike.
use Rattle.std.specs.Prelude.{◌≡◌, ℕ, ◌+◌, ◌/◌, ◌<◌, ◌≤◌, All, List, length, Option}
use Rattle.tree_translation.specs.declared.layers.Layer.{Layer}
use Rattle.tree_translation.specs.Layers.{lets}
use Rattle.tree_translation.specs.Translation.{asked_behind, first_some}

-- tails of a list that leave behind each state of a block of 64 what the whole list leaves
pub record AreNear (layer : Layer) (block : ℕ) (list near : List ℕ) : Type 0 where
  pub inside : All (λ n. n < length layer.tails.items) near
  pub same : (state : ℕ) (f : ℕ → Option ℕ) → state / 64 ≡ block
      → first_some (asked_behind layer state f) near ≡ first_some (asked_behind layer state f) list

-- a tail lets so many states from this one on be the input, or none of them
abbrev pub TreatsAlike : Layer → ℕ → ℕ → ℕ → Type 0
TreatsAlike layer state count number =
    (s : ℕ) → state ≤ s → s < state + count → lets layer number s ≡ lets layer number state
