-- What a search finds that counts the squares that it makes, and what it asks.
use Rattle.std.specs.Prelude.{◌≡◌, ℕ, ℤ, ◌+◌, ◌-◌, ◌^◌, ◌≤◌, List, length}
use Rattle.worlds.specs.World.{World}
use Rattle.worlds.specs.Square.{square_at}
use Rattle.square_table.specs.declared.square.Square.{Square}
use Rattle.square_table.specs.Squares.{Table, first_number, level_of, cells_of}
use Rattle.square_table.specs.Made.{IsMade}
use Rattle.hash_life_laws.specs.Puts.{PutsBlocks, AsksOnce}
use Rattle.hash_life_laws.specs.Makes.{Makes}
use Rattle.hash_engine.specs.Asked.{is_four, picked}
use Rattle.hash_engine.specs.Found.{IsLater}
use Rattle.counted_engine.specs.declared.found.CountedResult.{CountedResult}

-- the places of the squares of 4 by 4 cells
unfoldable pub places_of_four : List (List ℕ) → List ℕ
places_of_four rows = picked (λ i. is_four rows (first_number + i)) (length rows)

-- what was found on the way from the root's table t to u, which has all that is made on it: the
-- square, how many of the squares have 4 by 4 cells, and how many of these HashLife puts to the rule
pub record Finds (next : List ℕ → ℕ) (generations : ℕ) (t : Table) (root : Square) (u : Table)
    (found : CountedResult) : Type 0 where
  pub square : IsLater next generations t root u found.square
  pub made : Makes next (level_of root - 2) generations (cells_of t root) (IsMade u.rows)
  pub fours : found.fours ≡ length (places_of_four u.rows)
  pub few : found.fours ≤ length u.rows
  pub base : found.base ≤ found.fours
  pub put : generations ≤ 2 ^ (level_of root - 2) →
      PutsBlocks next (level_of root - 2) generations (cells_of t root) found.base

-- in a world where the root stands, each block of 4 by 4 cells that was put to the rule was put
-- once, and stands in one of the generations before the last
abbrev pub AsksOnceFor : {R : Type 0} → (R → List ℕ → ℕ) → (R → ℕ) → R → R → ℕ → Table → Square →
    CountedResult → Type 0
AsksOnceFor meaning asks old new generations t root = λ found.
    (w : World) (x y : ℤ) → generations ≤ 2 ^ (level_of root - 2) →
    cells_of t root ≡ square_at w (level_of root) x y →
    AsksOnce (meaning old) w generations found.base (asks old) (asks new)
