-- What is left of a table's rows, input by input.
use Rattle.std.specs.Prelude.{◌≡◌, ◌⊎◌, ⊤, ℕ, ◌<◌, ◌≤◌, ◌&&◌, Bool, true, false, All, List, [], ◌∷◌, ◌++◌, length, map, slice_get, slice_index, slice_index_or, Option, None, Some, if◌then◌else◌}
use Rattle.std.specs.Option.{option_eq}
use Rattle.table_symmetry.specs.declared.expansion.Expanded.{Expanded}
use Rattle.table_lines.specs.States.{same_set}
use Rattle.table_symmetry.specs.States.{has}
use Rattle.tree_translation.specs.declared.layers.Layer.{Layer}
use Rattle.tree_translation.specs.declared.layers.Tail.{Tail}

-- whether an input may be this state, where it has to be in a set or may be any
abbrev pub allows : Option (List ℕ) → ℕ → Bool
allows None state = true
allows (Some set) state = has set state

-- whether the same is asked of two inputs
abbrev pub same_asked : Option (List ℕ) → Option (List ℕ) → Bool
same_asked = option_eq same_set

-- what a row asks of the input at this place, which it may not have
abbrev pub asked_at : Option ℕ → List (List ℕ) → Option (List ℕ)
asked_at None sets = None
asked_at (Some place) sets = slice_get sets place

-- what a row asks of the inputs in this order
abbrev pub asked : List (Option ℕ) → List (List ℕ) → List (Option (List ℕ))
asked order sets = map (λ place. asked_at place sets) order

-- each input may be the state at its place
abbrev pub all_allow : List (Option (List ℕ)) → List ℕ → Bool
all_allow [] [] = true
all_allow [] (s ∷ states) = false
all_allow (x ∷ sets) [] = false
all_allow (x ∷ sets) (s ∷ states) = allows x s && all_allow sets states

abbrev pub tail_at : Layer → ℕ → Tail
tail_at layer number = slice_index_or layer.tails.items number (record { set = 0; rest = 0 })

-- what is left behind the input
abbrev pub rest_at : Layer → ℕ → ℕ
rest_at layer number = (tail_at layer number).rest

-- whether a tail lets the input be this state
abbrev pub lets : Layer → ℕ → ℕ → Bool
lets layer number state =
    allows (slice_index_or layer.sets.items (tail_at layer number).set None) state

-- the result that a tail has for these inputs
abbrev pub result_of : List Layer → ℕ → List ℕ → Option ℕ
result_of [] number inputs = Some number
result_of (layer ∷ layers) number [] = None
result_of (layer ∷ layers) number (s ∷ inputs) =
    if lets layer number s then result_of layers (rest_at layer number) inputs else None

-- how many numbers there are for what is left before these layers: behind the last there are the
-- states
abbrev pub count_of : ℕ → List Layer → ℕ
count_of states [] = states
count_of states (layer ∷ layers) = length layer.tails.items

-- the tails of a layer have sets, and something left among so many
pub record IsLayer (layer : Layer) (count : ℕ) : Type 0 where
  pub sets : All (λ (tail : Tail). tail.set < length layer.sets.items) layer.tails.items
  pub rests : All (λ (tail : Tail). tail.rest < count) layer.tails.items

-- each layer fits the next
abbrev pub Fit : ℕ → List Layer → Type 0
Fit states [] = ⊤
Fit states (layer ∷ layers) = IsLayer layer (count_of states layers) × Fit states layers

-- a tail gives what a row gives
abbrev pub StandsFor : List Layer → List (Option ℕ) → Expanded → ℕ → Type 0
StandsFor layers order row number =
    (inputs : List ℕ) → length inputs ≡ length order
    → result_of layers number inputs
    ≡ (if all_allow (asked order row.inputs) inputs then Some row.result else None)

-- the layers of these rows, and the number of the tail of each
pub record AreLayersOf (states : ℕ) (order : List (Option ℕ)) (rows : List Expanded)
    (layers : List Layer) (numbers : List ℕ)
    : Type 0 where
  pub depth : length layers ≡ length order
  pub fit : Fit states layers
  pub count : length numbers ≡ length rows
  pub inside : All (λ n. n < count_of states layers) numbers
  pub few : All (λ (layer : Layer). length layer.tails.items ≤ length rows) layers
  pub stand : (k : ℕ) (d : Expanded) → k < length rows
      → StandsFor layers order (slice_index_or rows k d) (slice_index numbers k)

-- one more layer before those, by what was left of each row
pub record IsLayerOf (place : Option ℕ) (rows : List Expanded) (rests : List ℕ) (layer : Layer)
    (numbers : List ℕ)
    : Type 0 where
  pub count : length numbers ≡ length rows
  pub inside : All (λ n. n < length layer.tails.items) numbers
  pub few : length layer.tails.items ≤ length rows
  pub asks : (k : ℕ) (d : Expanded) → k < length rows
      → slice_index_or layer.sets.items (tail_at layer (slice_index numbers k)).set None
      ≡ asked_at place (slice_index_or rows k d).inputs
  pub leaves : (k : ℕ) → k < length rows
      → rest_at layer (slice_index numbers k) ≡ slice_index rests k

-- a key that is equal to this one has this number
abbrev pub IsKeptAt : {X : Type 0} → (X → X → Bool) → List X → X → ℕ → Type 0
IsKeptAt {X} eq keys key number = (kept : X) × (slice_get keys number ≡ Some kept)
    × (eq key kept ≡ true)

-- one more came behind those that were there, or it was there
abbrev pub IsGrownBy : {X : Type 0} → List X → X → List X → Type 0
IsGrownBy old x new = (new ≡ old) ⊎ (new ≡ old ++ x ∷ [])
