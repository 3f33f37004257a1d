-- The law: whatever happens, a desk is right.
use Rattle.std.specs.Prelude.{◌≡◌, ◌⊎◌, ℕ, List, [], ◌∷◌, ⊤}
use Rattle.desk_events.specs.declared.mark.Mark.{Mark}
use Rattle.desk_events.specs.Configuration.{Configuration, IsReached}
use Rattle.desk_events.specs.Core.{Core, opened, shown}
use Rattle.desk_events.specs.Entry.{Stepping}
use Rattle.desk_events.specs.Event.{CanHappen, CanRecall, Event, IsTrueAnswer, after_event, cancels, collects, edits, issues, recalls}
use Rattle.desk_events.specs.Right.{IsRight, IsShown}

-- after any list of what may happen, in any order, the desk is right
abbrev pub StaysRight : Type 0
StaysRight = (revision : ℕ) (c : Configuration) → IsReached revision c → IsRight c.core

-- so each bookmark is shown with the text that starting over gives for the present document, or as
-- pending
abbrev pub ShowsOnlyScratch : Type 0
ShowsOnlyScratch =
    (revision : ℕ) (c : Configuration) → IsReached revision c
    → (id : ℕ) → IsShown c.core.plan id (shown c.core id)

-- What the calls of a desk are.

-- a mark, an earlier number, and its step
pub record Recalled : Type 0 where
  pub mark : Mark
  pub number : ℕ
  pub step : Stepping

abbrev pub recall : Recalled → Event
recall r = recalls r.mark r.number r.step

-- what came of earlier steps may be entered, one after the other, and leads there
abbrev pub Recalls : List Recalled → Core → Core → Type 0
Recalls [] c d = d ≡ c
Recalls (r ∷ rs) c d =
    CanRecall c r.mark r.number r.step × Recalls rs (after_event c (recall r)) d

-- an event, and then earlier steps are entered
pub record Follows (event : Event) (c d : Core) : Type 0 where
  pub entered : List Recalled
  pub recalls : Recalls entered (after_event c event) d

-- an answer that is handed in has the value of its number's entry
abbrev pub IsTrue : Core → Event → Type 0
IsTrue c (edits asked felt) = ⊤
IsTrue c (issues need entry) = ⊤
IsTrue c (collects answer) = IsTrueAnswer c.entries answer
IsTrue c (cancels number) = ⊤
IsTrue c (recalls mark number s) = ⊤

-- a call: an event that may happen
pub record Calls (event : Event) (c d : Core) : Type 0 where
  pub can : CanHappen c event
  pub true_one : IsTrue c event
  pub follows : Follows event c d

-- a call, or nothing
abbrev pub IsCall : Core → Core → Type 0
IsCall c d = ((event : Event) × Calls event c d) ⊎ (d ≡ c)

-- each of these desks comes of the one before by a call
abbrev pub AreCalls : List Core → Core → Core → Type 0
AreCalls [] c e = e ≡ c
AreCalls (d ∷ ds) c e = IsCall c d × AreCalls ds d e

-- whatever calls are made on a desk that was opened, what happens in the law leads there too
abbrev pub CallsAreEvents : Type 0
CallsAreEvents =
    (revision : ℕ) (desks : List Core) (c : Core) → AreCalls desks (opened revision) c
    → (e : Configuration) × IsReached revision e × (e.core ≡ c)
