-- How a search for a result ends.
use Rattle.std.specs.Prelude.{◌≡◌, ℕ, ◌+◌, ◌-◌, ◌≤◌, List, Result, Err}
use Rattle.worlds.specs.Stop.{CountsStop}
use Rattle.square_table.specs.declared.square.Square.{Square}
use Rattle.square_table.specs.Squares.{Table, IsHeld, level_of, cells_of}
use Rattle.square_table.specs.Made.{IsFull}
use Rattle.square_table.specs.declared.fault.TableFault.TheVariants.{NoRoom}
pub use Rattle.bit_blocks.specs.Answers.{IsSameRule, KeepsRule}
use Rattle.hash_life_laws.specs.Result.{result}
use Rattle.hash_life_laws.specs.Puts.{IsBelow}
use Rattle.hash_engine.specs.Memo.{IsRightMemo}
use Rattle.hash_engine.specs.declared.memo.Memo.{Memo}
use Rattle.hash_engine.specs.declared.fault.ResultFault.{ResultFault}

-- a square of the table whose result can be asked for: it has at least 4 by 4 cells, and their
-- states are the rule's
pub record CanBeAsked (state_count : ℕ) (t : Table) (root : Square) : Type 0 where
  pub held : IsHeld t root
  pub level : (2 ≤ level_of root) × (level_of root ≤ 63)
  pub below : IsBelow state_count (cells_of t root)

-- its result can be asked for where results are remembered, all of which are right
pub record CanSearch (next : List ℕ → ℕ) (state_count : ℕ) (t : Table) (memo : Memo) (root : Square)
    : Type 0 where
  pub asked : CanBeAsked state_count t root
  pub right : IsRightMemo next t memo

-- the square is the one in the middle of the root so many generations later, in the table that came
-- of the root's
pub record IsLater (next : List ℕ → ℕ) (generations : ℕ) (t : Table) (root : Square) (u : Table)
    (square : Square) : Type 0 where
  pub held : IsHeld u square
  pub level : level_of square + 1 ≡ level_of root
  pub cells : cells_of u square ≡ result next (level_of root - 2) generations (cells_of t root)

-- it ends as the stop tells it to, and with NoRoom only where the table is full
pub record IsEnd {A : Type 0} (table : Table) (yes new_yes : ℕ) (r : Result A ResultFault)
    : Type 0 where
  pub stop : CountsStop r (Err ResultFault.Stopped) yes new_yes
  pub full : r ≡ Err (ResultFault.Table NoRoom) → IsFull table
