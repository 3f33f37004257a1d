-- What happens to a desk, and what it makes of it.
use Rattle.std.specs.Prelude.{◌≡◌, ℕ, ◌<◌, ◌≤◌, ◌++◌, List, [], ◌∷◌, length, slice_get, Option, None, Some, IfSome, Result, Ok, Err, if◌then◌else◌, ◌==◌, ⊤}
use Rattle.rule_tree.specs.Rule.{states_of}
use Rattle.schedule.specs.declared.fault.EditFault.{EditFault}
use Rattle.schedule.specs.Asked.{Asked, ReplaceRule}
use Rattle.schedule.specs.Change.{Changed, change, changed}
use Rattle.schedule.specs.Plan.{Plan}
use Rattle.bookmarks.specs.Value.{Value, pattern}
use Rattle.desk_events.specs.declared.mark.Mark.{Mark}
use Rattle.desk_events.specs.declared.need.Need.{Need}
use Rattle.desk_events.specs.declared.need.Need.TheVariants.{Step, View}
use Rattle.desk_events.specs.Core.{Answer, Core, Row, arrival_in, awaits, holds, nothing, put}
use Rattle.desk_events.specs.Entered.{IsEntryFrom, StepsFrom}
use Rattle.desk_events.specs.Entry.{AreSameSteps, Entry, Stepping, steps, value, world_after}
use Rattle.desk_events.specs.Felt.{IsFelt}
use Rattle.desk_events.specs.Kept.{keeps}
use Rattle.desk_events.specs.Marks.{is_start, mark_at}
use Rattle.desk_events.specs.Needs.{step_to}

-- an edit is asked, which is felt from some mark on; a job with an entry is issued for a need,
-- under the next number; an answer is collected; the job of a number is cancelled; or what came of a
-- step under an earlier number is entered for a mark
pub data Event : Type 0 where
  edits : Asked → Option Mark → Event
  issues : Need → Entry → Event
  collects : Answer → Event
  cancels : ℕ → Event
  recalls : Mark → ℕ → Stepping → Event

-- what an edit of a document that gives q, felt from a mark on, keeps of what stands for a need; at
-- generation 0 of branch 0 the start arrives
abbrev pub kept_row : Plan → Asked → Option Mark → Plan → Need → Row → Row
kept_row p asked felt q (Step branch mark) row =
    if is_start (mark_at branch mark) then holds (pattern q.start)
    else if keeps p asked felt q (Step branch mark) then row else nothing
kept_row p asked felt q (View id) row = if keeps p asked felt q (View id) then row else nothing

-- a desk after an edit that gives a changed document; a refused one changes nothing
abbrev pub after_edit : Core → Asked → Option Mark → Result Changed EditFault → Core
after_edit c asked felt (Ok changed) = record {
  plan = changed.plan;
  entries = c.entries;
  rows = λ need. kept_row c.plan asked felt changed.plan need (c.rows need);
}
after_edit c asked felt (Err fault) = c

-- what an answer gives: its value, or nothing where the job gave up
abbrev pub given_by : Option Value → Row
given_by None = nothing
given_by (Some found) = holds found

-- what stands after an answer: what it gives, where its number is awaited
abbrev pub answered : Answer → Row → Row
answered answer nothing = nothing
answered answer (awaits n) = if n == answer.number then given_by answer.value else awaits n
answered answer (holds found) = holds found

-- what stands after the job of a number was cancelled: nothing, where it is awaited
abbrev pub cancelled : ℕ → Row → Row
cancelled number nothing = nothing
cancelled number (awaits n) = if n == number then nothing else awaits n
cancelled number (holds found) = holds found

-- a desk after an event
abbrev pub after_event : Core → Event → Core
after_event c (edits asked felt) = after_edit c asked felt (change c.plan asked)
after_event c (issues need entry) =
    put need (awaits (length c.entries)) (record c { entries = c.entries ++ entry ∷ [] })
after_event c (collects answer) = record c { rows = λ need. answered answer (c.rows need) }
after_event c (cancels number) = record c { rows = λ need. cancelled number (c.rows need) }
after_event c (recalls mark number s) = put (step_to mark) (holds (pattern (world_after s))) c

-- a rule that is asked for has 2 to 256 states
abbrev pub MayBeAsked : Asked → Type 0
MayBeAsked (ReplaceRule rule) = (2 ≤ states_of rule) × (states_of rule ≤ 256)
MayBeAsked _ = ⊤

-- an edit may be asked, and is felt from there
pub record CanEdit (c : Core) (asked : Asked) (felt : Option Mark) : Type 0 where
  pub rule : MayBeAsked asked
  pub felt_there : IsFelt (arrival_in c) c.plan asked (changed c.plan asked).plan felt

-- a job may be issued for a need: nothing stands for it, the entry is what is to be computed for
-- it, and numbers are left
pub record CanIssue (c : Core) (need : Need) (entry : Entry) : Type 0 where
  pub empty : c.rows need ≡ nothing
  pub own : IsEntryFrom c.plan (arrival_in c) need entry
  pub few : length c.entries < 16777216

-- what came of a step may be entered for a mark: nothing stands there, the step is the entry of an
-- earlier number, and it is the one that is to be computed for the mark, whatever its rule is
-- called
pub record CanRecall (c : Core) (mark : Mark) (number : ℕ) (s : Stepping) : Type 0 where
  pub empty : c.rows (step_to mark) ≡ nothing
  pub earlier : slice_get c.entries number ≡ Some (steps s)
  pub own : Stepping
  pub same : AreSameSteps s own
  pub is : StepsFrom c.plan (arrival_in c) mark own

-- an event may happen to a desk
abbrev pub CanHappen : Core → Event → Type 0
CanHappen c (edits asked felt) = CanEdit c asked felt
CanHappen c (issues need entry) = CanIssue c need entry
CanHappen c (collects answer) = ⊤
CanHappen c (cancels number) = ⊤
CanHappen c (recalls mark number s) = CanRecall c mark number s

-- a value is that of the entry of a number
pub record IsValueOf (entries : List Entry) (number : ℕ) (found : Value) : Type 0 where
  pub entry : Entry
  pub there : slice_get entries number ≡ Some entry
  pub is : found ≡ value entry

-- an answer that has a value has that of its number's entry
abbrev pub IsTrueAnswer : List Entry → Answer → Type 0
IsTrueAnswer entries answer = IfSome answer.value (IsValueOf entries answer.number)
