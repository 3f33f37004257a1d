-- What may be short when a command is answered.
use Rattle.std.specs.Prelude.{◌≡◌, ℕ, Bool, true, List, Option, IsSome, ⊤}
use Rattle.std.specs.List.{AllByRecursion}
use Rattle.desk_core.specs.declared.cause.Cause.{Cause}

-- nothing; memory to read the words of a command or its text; memory to do what is asked, which
-- counts only where that has no fault; a settling that left so many bookmarks pending, for its
-- cause if it has one; a bookmark that stayed pending; a poll after which so many are pending
-- still, with a cause if it met one; or texts where bookmarks are listed: those of the ids with
-- `true` alone are known
pub data Shortage : Type 0 where
  NoShortage : Shortage
  Unread : Shortage
  Memory : Shortage
  Unsettled : ℕ → Option Cause → Shortage
  Pending : Shortage
  Still : ℕ → Option Cause → Shortage
  Known : (ℕ → Bool) → Shortage

-- a settling that left bookmarks pending has a cause
abbrev pub IsCaused : Shortage → Type 0
IsCaused (Unsettled n cause) = IsSome cause
IsCaused _ = ⊤

-- over a prompt post it has one
abbrev pub IsCausedOver : Bool → Shortage → Type 0
IsCausedOver prompt shortage = prompt ≡ true → IsCaused shortage

-- over a prompt post each of them has one
abbrev pub AllCausedOver : Bool → List Shortage → Type 0
AllCausedOver prompt shortages = prompt ≡ true → AllByRecursion IsCaused shortages
