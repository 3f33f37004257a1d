-- A look-up of rows by the states that they have.
use Rattle.std.specs.Prelude.{◌≡◌, ℕ, ◌+◌, ◌*◌, ◌<◌, ◌/◌, ◌%◌, ◌==◌, All, Bool, List, [], length, map, zip, slice_index, slice_index_or, Option}
use Rattle.std.specs.List.{list_all}
use Rattle.std.specs.Int.{bit_at}
use Rattle.worlds.specs.Step.{AreNineBelow}
use Rattle.table_symmetry.specs.declared.expansion.Expanded.{Expanded}
use Rattle.table_symmetry.specs.declared.lookup.Lookup.{Lookup}
use Rattle.table_lines.specs.declared.neighborhood.Neighborhood.{Neighborhood}
use Rattle.table_symmetry.specs.Expanded.{all_have, first_match}
use Rattle.table_symmetry.specs.NextState.{inputs_of, places_of}
use Rattle.table_symmetry.specs.States.{has, is_bit_set, word_of}

-- a column of bits has this bit of each word
abbrev pub HasBits : List ℕ → List ℕ → ℕ → Type 0
HasBits column words bit =
    (row : ℕ) → row < length words
    → bit_at (slice_index column (row / 64)) (row % 64) ≡ bit_at (slice_index words row) bit

-- none of 64 words has a bit that this one doesn't have
abbrev pub HasBitsOf : ℕ → List ℕ → ℕ → Type 0
HasBitsOf union words number =
    (bit place : ℕ) → place < 64 → bit_at union bit ≡ 0
    → bit_at (slice_index words (64 * number + place)) bit ≡ 0

-- for each 64 words such a one
pub record HaveBitsOf (unions words : List ℕ) : Type 0 where
  pub count : length unions ≡ (length words + 63) / 64
  pub each : (number : ℕ) → number < length unions
      → HasBitsOf (slice_index unions number) words number

-- a row's set at a place
abbrev pub set_at : ℕ → Expanded → List ℕ
set_at place row = slice_index_or row.inputs place []

-- one word of each row's set at a place
abbrev pub word_of_each : ℕ → ℕ → List Expanded → List ℕ
word_of_each place word rows = map (λ row. word_of (set_at place row) word) rows

-- each row has a set for the cell and each neighbour
abbrev pub HaveInputs : Neighborhood → List Expanded → Type 0
HaveInputs neighborhood rows =
    All (λ (row : Expanded). length row.inputs ≡ length (places_of neighborhood) + 1) rows

-- a column of bits tells which rows' sets at the place have the state
abbrev pub TellsRows : List Expanded → ℕ → ℕ → List ℕ → Type 0
TellsRows rows place state column =
    (row : ℕ) (d : Expanded) → row < length rows
    → is_bit_set column row ≡ has (set_at place (slice_index_or rows row d)) state

-- for each state below n such a column
abbrev pub HasColumns : List Expanded → ℕ → ℕ → List (List ℕ) → Type 0
HasColumns rows n place columns =
    (state : ℕ) → state < n → TellsRows rows place state (slice_index_or columns state [])

-- whether the row of this number has each state at its place, where each place has a column of bits
-- for each state
abbrev pub row_has : List (List (List ℕ)) → List ℕ → ℕ → Bool
row_has columns inputs row =
    list_all (λ p. is_bit_set (slice_index_or p.0 p.1 []) row) (zip columns inputs)

-- the bits of a word tell which of 64 rows have each state at its place
abbrev pub TellRows : List (List (List ℕ)) → List ℕ → ℕ → ℕ → Type 0
TellRows columns inputs word bits =
    (bit : ℕ) → bit < 64 → (bit_at bits bit == 1) ≡ row_has columns inputs (64 * word + bit)

-- a look-up of these rows, for states below n: it has their results, and its columns tell which of
-- them match the states at and around a cell
pub record IsLookupOf (rows : List Expanded) (n : ℕ) (neighborhood : Neighborhood) (lookup : Lookup)
    : Type 0 where
  pub around : lookup.neighborhood ≡ neighborhood
  pub results : lookup.results ≡ map (λ row. row.result) rows
  pub tells : (states : List ℕ) → AreNineBelow n states → (row : ℕ) (d : Expanded)
      → row < length rows
      → row_has lookup.columns (inputs_of neighborhood states) row
      ≡ all_have (slice_index_or rows row d).inputs (inputs_of neighborhood states)

-- what a look-up finds for the states at and around a cell: what the first row that matches gives,
-- of whatever rows it is the look-up
abbrev pub FindsFirstRow : Lookup → List ℕ → Option ℕ → Type 0
FindsFirstRow lookup around found =
    (rows : List Expanded) (n : ℕ) (neighborhood : Neighborhood)
    → IsLookupOf rows n neighborhood lookup → AreNineBelow n around
    → found ≡ first_match rows (inputs_of neighborhood around)
