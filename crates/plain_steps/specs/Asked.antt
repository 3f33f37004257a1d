-- What a rule was asked on the way to the next generation.
use Rattle.std.specs.Prelude.{◌≡◌, ◌==◌, ◌&&◌, ◌++◌, ℕ, zero, suc, ℤ, List, [], ◌∷◌, All, true, None, Some, cond}
use Rattle.std.specs.List.{list_any}
use Rattle.worlds.specs.declared.cell.CellSet.{CellSet}
use Rattle.worlds.specs.World.{World, Place, cell, blank, same_place}
use Rattle.worlds.specs.Lay.{lay}
use Rattle.worlds.specs.Fill.{fill}
use Rattle.worlds.specs.Step.{around}
use Rattle.square_tree.specs.Cells.{put, state_at}
use Rattle.plain_steps.specs.declared.asked.Asked.{Asked}
use Rattle.plain_steps.specs.Generation.{IsKeptCell}

-- the state of (x, y) in the generation after w
abbrev pub follows : (List ℕ → ℕ) → World → ℤ → ℤ → ℕ
follows next w x y = next (around w x y)

-- the rule was asked at the places ps and no others: its answers, and whether all are as in w
pub record HasAsked (next : List ℕ → ℕ) (w : World) (ps : List Place) (a : Asked) : Type 0 where
  pub says : (x y : ℤ) → state_at a.patch x y
      ≡ cond (list_any (same_place (y, x)) ps) (Some (follows next w x y)) None
  pub laid : lay a.cells.items blank ≡ fill ps (follows next w) blank
  pub listed : All (IsKeptCell a.patch.level (follows next w)) a.cells.items
  pub still : a.is_still ≡ true → (x y : ℤ) → list_any (same_place (y, x)) ps ≡ true →
      follows next w x y ≡ cell w x y

-- it was asked at the places qs too
pub record AsksMore (next : List ℕ → ℕ) (w : World) (qs : List Place) (old new : Asked)
    : Type 0 where
  pub level : new.patch.level ≡ old.patch.level
  pub asked : (ps : List Place) → HasAsked next w ps old → HasAsked next w (ps ++ qs) new

-- what a list of live cells has of a cell
abbrev pub listed_as : ℤ → ℤ → ℕ → List CellSet
listed_as x y zero = []
listed_as x y (suc n) = record { x = x; y = y; state = suc n } ∷ []

-- the answer at (x, y), where the state was another or the same
pub record IsNoted (x y : ℤ) (before state : ℕ) (old new : Asked) : Type 0 where
  pub patch : new.patch ≡ put old.patch x y state
  pub cells : new.cells.items ≡ old.cells.items ++ listed_as x y state
  pub still : new.is_still ≡ (old.is_still && before == state)
