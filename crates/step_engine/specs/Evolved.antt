-- What can be evolved, and why an engine refuses.
use Rattle.std.specs.Prelude.{◌≡◌, ◌≢◌, ℕ, suc, ◌≤◌, ◌^◌, min, List, length, All, AllPairs, Contains, codes}
use Rattle.worlds.specs.World.{World}
use Rattle.worlds.specs.Range.{HasMargin, AllBelow}
use Rattle.worlds.specs.Square.{Square, square_at}
use Rattle.hash_life_laws.specs.Makes.{Makes}
use Rattle.square_table.specs.Centred.{edge}
use Rattle.square_table.specs.Made.{HasStart}
use Rattle.step_engine.specs.Reach.{IsRoomLevel}
use Rattle.square_table.specs.declared.fault.TableFault.{TableFault}
use Rattle.square_table.specs.declared.fault.TableFault.TheVariants as table
use Rattle.hash_engine.specs.declared.fault.ResultFault.{ResultFault}
use Rattle.hash_engine.specs.declared.fault.ResultFault.TheVariants as results
use Rattle.step_engine.specs.declared.evolved.EvolveFault.{EvolveFault}
use Rattle.step_engine.specs.declared.evolved.EvolveFault.TheVariants.{NoRoom, Stopped, NoMemory}

-- a pattern with states of the rule, and with room for so many generations, which are at most 2^60
pub record CanEvolve (state_count generations : ℕ) (w : World) : Type 0 where
  pub below : AllBelow state_count w
  pub few : generations ≤ 2 ^ 60
  pub fits : HasMargin generations w

-- different squares, so many of them, which are among these
pub record AreDifferent (squares : List Square) (many : ℕ) (all : List Square) : Type 0 where
  pub count : length squares ≡ many
  pub different : AllPairs (λ s t. s ≢ t) squares
  pub listed : All (Contains all) squares

-- these have all that are made where a world's square of level k + 2 goes n generations ahead
pub record HasWay (all : List Square) (next : List ℕ → ℕ) (w : World) (k n : ℕ) : Type 0 where
  pub start : HasStart all w (suc (suc k))
  pub way : Makes next k n (square_at w (suc (suc k)) (edge (suc (suc k))) (edge (suc (suc k))))
      (Contains all)

-- these are the squares of such a way and no others: every list that has the way has each of them
pub record IsWay (all : List Square) (next : List ℕ → ℕ) (w : World) (k n : ℕ) : Type 0 where
  pub has : HasWay all next w k n
  pub only : (those : List Square) → HasWay those next w k n → All (Contains those) all

-- each way is there, so that what holds of all lists that have it is said of a list
abbrev pub EachWayIsThere : Type 0
EachWayIsThere =
    (next : List ℕ → ℕ) (w : World) (k n : ℕ) → (all : List Square) × IsWay all next w k n

-- any list of all squares that are made on the way has as many different ones as may be held
pub record IsRoomSpent (limit : ℕ) (next : List ℕ → ℕ) (w : World) (n : ℕ) : Type 0 where
  pub k : ℕ
  pub root : IsRoomLevel n w k
  pub made : (all : List Square) → HasWay all next w k n →
      (squares : List Square) × AreDifferent squares (min limit 16777216) all

-- the number of a refusal
abbrev pub number_of : EvolveFault → ℕ
number_of NoMemory = 70
number_of NoRoom = 71
number_of Stopped = 72

-- its name
abbrev pub name_of : EvolveFault → List ℕ
name_of NoMemory = codes "NoMemory"
name_of NoRoom = codes "NoRoom"
name_of Stopped = codes "Stopped"

-- a refusal of a table of squares, as the engine's
abbrev pub of_table : TableFault → EvolveFault
of_table table.NoRoom = NoRoom
of_table table.NoMemory = NoMemory

-- why a square has no result, as the engine's refusal
abbrev pub of_result : ResultFault → EvolveFault
of_result (results.Table fault) = of_table fault
of_result results.Stopped = Stopped
