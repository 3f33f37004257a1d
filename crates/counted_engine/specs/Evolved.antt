-- What an engine reports of its work.
use Rattle.std.specs.Prelude.{◌≡◌, ℕ, suc, ◌≤◌, Bool, true, false, List, length, filter, Contains}
use Rattle.worlds.specs.World.{World}
use Rattle.worlds.specs.Step.{step}
use Rattle.worlds.specs.Iterate.{iterate}
use Rattle.worlds.specs.Square.{Square, one, four, square_at}
use Rattle.hash_life_laws.specs.Makes.{Makes}
use Rattle.hash_life_laws.specs.Puts.{PutsBlocks, AsksOnce}
use Rattle.square_table.specs.Centred.{edge}
use Rattle.square_table.specs.Made.{HoldsWithin}
use Rattle.step_engine.specs.Evolved.{AreDifferent, HasWay}
use Rattle.step_engine.specs.Reach.{IsRoomLevel}
use Rattle.counted_engine.specs.declared.evolved.Evolved.{Evolved}
use Rattle.counted_engine.specs.declared.evolved.Report.{Report}

-- the report of an engine that shares nothing
abbrev pub nothing_shared : Report
nothing_shared = record { squares = 0; fours = 0; base = 0 }

-- a report of no more squares than there may be, of no more of 4 by 4 cells than these, and of no
-- more put to the rule than those
pub record CountsWithin (limit : ℕ) (report : Report) : Type 0 where
  pub squares : report.squares ≤ limit
  pub fours : report.fours ≤ report.squares
  pub base : report.base ≤ report.fours

-- whether the square has 4 by 4 cells: its quadrants have quadrants that are cells
abbrev pub is_block : Square → Bool
is_block (four (four (one s) b c d) f g h) = true
is_block other = false

-- these have the world's square of level k + 2, all that it is made of, and all that is made where
-- it goes n generations ahead
pub record HasSearch (squares : List Square) (next : List ℕ → ℕ) (w : World) (k n : ℕ)
    : Type 0 where
  pub root : HoldsWithin (Contains squares)
      (square_at w (suc (suc k)) (edge (suc (suc k))) (edge (suc (suc k))))
  pub way : Makes next k n (square_at w (suc (suc k)) (edge (suc (suc k))) (edge (suc (suc k))))
      (Contains squares)

-- the rule was asked once for each block of 4 by 4 cells that was put to it, and all of those stand
-- in generations before the last
abbrev pub AsksOnceOf : {R : Type 0} → (R → List ℕ → ℕ) → (R → ℕ) → R → R →
    World → ℕ → Evolved → Type 0
AsksOnceOf meaning asks old new w n = λ evolved.
    AsksOnce (meaning old) w n evolved.report.base (asks old) (asks new)

-- the squares that are reported, where these are all that are made on the way: different ones of
-- these, which have all that the search goes through, and so many of them have 4 by 4 cells
pub record AreReported (all : List Square) (next : List ℕ → ℕ) (w : World) (k n : ℕ)
    (report : Report) : Type 0 where
  pub squares : List Square
  pub different : AreDifferent squares report.squares all
  pub blocks : length (filter is_block squares) ≡ report.fours
  pub search : HasSearch squares next w k n

-- so many different squares of 4 by 4 cells are put to the rule where the world's square of level
-- k + 2 goes n generations ahead
abbrev pub HasPut : (List ℕ → ℕ) → World → ℕ → ℕ → ℕ → Type 0
HasPut next w k n many =
    PutsBlocks next k n (square_at w (suc (suc k)) (edge (suc (suc k))) (edge (suc (suc k)))) many

-- a report of all squares that the search goes through, and of none that isn't made on the way, and
-- of as many as are put to the rule on it
pub record IsReport (limit : ℕ) (next : List ℕ → ℕ) (w : World) (n : ℕ) (report : Report)
    : Type 0 where
  pub within : CountsWithin limit report
  pub k : ℕ
  pub root : IsRoomLevel n w k
  pub held : (all : List Square) → HasWay all next w k n → AreReported all next w k n report
  pub put : HasPut next w k n report.base

-- the world n generations later, and the report of the way
pub record IsEvolved (limit : ℕ) (next : List ℕ → ℕ) (w : World) (n : ℕ) (evolved : Evolved)
    : Type 0 where
  pub plane : evolved.plane ≡ iterate n (step next) w
  pub report : IsReport limit next w n evolved.report
