-- Many generations in pieces.
use Rattle.std.specs.Prelude.{ℕ, ◌+◌, ◌*◌, ◌≤◌, List}
use Rattle.worlds.specs.World.{World}
use Rattle.worlds.specs.Step.{step}
use Rattle.worlds.specs.Iterate.{iterate}
use Rattle.step_engine.specs.Evolved.{IsRoomSpent}

-- a piece of the way to the world n generations later has no room: it begins some generations after
-- the world, and is no more than a 4,096th of them, rounded up
pub record IsPieceSpent (limit : ℕ) (next : List ℕ → ℕ) (w : World) (n : ℕ) : Type 0 where
  pub before : ℕ
  pub count : ℕ
  pub within : before + count ≤ n
  pub short : 4096 * count ≤ n + 4095
  pub spent : IsRoomSpent limit next (iterate before (step next) w) count
