-- What is entered without a job, because it was computed before.
use Rattle.std.specs.Prelude.{◌≡◌, ℕ, ◌≤◌, List, [], ◌∷◌, true, false, Some, None, IsSome, slice_get, ⊤}
use Rattle.std.specs.Result.{IsOk}
use Rattle.revision_jobs.specs.declared.entry.Entry.TheVariants as entry
use Rattle.revision_jobs.specs.declared.entry.Step.{Step as Stepping}
use Rattle.revision_jobs.specs.Answer.{JobResult}
use Rattle.revision_jobs.specs.Entries.{entry_of}
use Rattle.revision_jobs.specs.Value.{pattern, world_after}
use Rattle.schedule.specs.Asked.{Asked}
use Rattle.desk_events.specs.declared.mark.Mark.{Mark}
use Rattle.desk_events.specs.declared.need.Need.{Need}
use Rattle.dependency_book.specs.declared.row.RowState.TheVariants.{Empty, Known}
use Rattle.dependency_book.specs.BookState.{BookState, SameButFacts, row_of, with_facts}
use Rattle.dependency_book.specs.Entered.{StepsTo}
use Rattle.dependency_book.specs.Jobs.{SameBook, answered}
use Rattle.dependency_book.specs.Needs.{CanBeReached}
use Rattle.dependency_book.specs.declared.filled.Filled.{Filled}
use Rattle.dependency_book.specs.declared.filled.Filled.TheVariants.{Row, Released, NotExpected}
use Rattle.desk_events.specs.Needs.{is_need, step_to}
use Rattle.dependency_book.specs.Kept.{KeepsUnfelt}
use Rattle.desk_events.specs.Entry.{AreSameSteps, Entry, Stepping as Given, steps}
use Rattle.step_facts.specs.Known.{Fact, known}
use Rattle.dependency_book.specs.Puts.{PutsRow, can_change}
use Rattle.dependency_book.specs.Right.{WasIssued}
use Rattle.dependency_book.specs.Said.{step_said}

-- an earlier number was given for the same step, whatever its rule is called
pub record WasGiven (entries : List Entry) (s : Stepping) : Type 0 where
  pub number : ℕ
  pub step : Given
  pub there : slice_get entries number ≡ Some (steps step)
  pub same : AreSameSteps step (step_said s)

-- so it is with each step that is remembered
abbrev pub AreGiven : List Entry → List Fact → Type 0
AreGiven entries facts = (s : Stepping) → IsSome (known facts s) → WasGiven entries s

-- what comes of a step is entered for a mark of the document but the start: nothing stood in its
-- row, and the step is what is to be computed for that row, and was given before; nothing else
-- changes but what is remembered
pub record Enters (mark : Mark) (s : Stepping) (d e : BookState) : Type 0 where
  pub there : can_change d.plan (step_to mark) ≡ true
  pub empty : row_of d (step_to mark) ≡ Empty
  pub own : StepsTo d mark s
  pub earlier : WasGiven d.entries s
  pub puts :
      PutsRow (step_to mark) (Known (pattern (world_after s))) (with_facts d e.facts e.missed) e

-- what comes of these steps is entered for their marks, one after the other
abbrev pub Entered : List (Mark × Stepping) → BookState → BookState → Type 0
Entered [] d e = SameButFacts d e
Entered (r ∷ rs) d f = (e : BookState) × Enters r.0 r.1 d e × Entered rs e f

-- what comes of some steps is entered
abbrev pub EntersSteps : BookState → BookState → Type 0
EntersSteps d e = (entered : List (Mark × Stepping)) × Entered entered d e

-- what comes of the step to a mark isn't remembered
abbrev pub NoneKnown : BookState → Mark → Type 0
NoneKnown d mark = (s : Stepping) → StepsTo d mark s → known d.facts s ≡ None

-- unless memory was wanting meanwhile, nothing is left to enter: what comes of the step to a mark
-- that can be reached isn't remembered
abbrev pub LeavesNone : BookState → BookState → Type 0
LeavesNone old new =
    new.missed ≡ old.missed → (mark : Mark) → CanBeReached new mark → NoneKnown new mark

-- what comes of each step that was remembered still is
abbrev pub Remembers : BookState → BookState → Type 0
Remembers old new = (s : Stepping) → known new.facts s ≡ known old.facts s

-- what comes of the step to a mark was looked for, and entered if it was known: no other row
-- changes, and unless memory was wanting nothing that is remembered is left to enter for the mark
pub record LooksUp (mark : Mark) (old new : BookState) : Type 0 where
  pub recalls : EntersSteps old new
  pub others : (need : Need) → is_need (step_to mark) need ≡ false
      → row_of new need ≡ row_of old need
  pub remembers : Remembers old new
  pub missed : old.missed ≤ new.missed
  pub none : new.missed ≡ old.missed → CanBeReached new mark → NoneKnown new mark

-- so it was for each mark that can be reached
pub record LooksUpAll (old new : BookState) : Type 0 where
  pub recalls : EntersSteps old new
  pub remembers : Remembers old new
  pub missed : old.missed ≤ new.missed
  pub none : LeavesNone old new

-- what an edit keeps stands, and all that is known by steps that were computed before was entered;
-- the table is the same, what was remembered still is, and no number of a job was given
pub record Revises (asked : Asked) (old new : BookState) : Type 0 where
  pub table : new.table ≡ old.table
  pub entries : new.entries ≡ old.entries
  pub indices : new.indices ≡ old.indices
  pub kept : BookState
  pub keeps : KeepsUnfelt asked old kept
  pub recalls : EntersSteps kept new
  pub remembers : Remembers old new
  pub none : LeavesNone old new

-- unless memory was wanting, the step of a job that was issued is remembered with what came of it,
-- whether or not a row still expects the job
abbrev pub Learns : JobResult → BookState → BookState → Type 0
Learns answer old new =
    new.missed ≡ old.missed → WasIssued old answer.job → IsOk answer.outcome → (s : Stepping) →
    entry_of answer.job.place ≡ entry.Step s → known new.facts s ≡ Some (world_after s)

-- an answer was taken, what came of a step is remembered, and what is known by steps that were
-- computed before was entered
pub record Fills (answer : JobResult) (old new : BookState) : Type 0 where
  pub put : BookState
  pub book : SameBook old put
  pub rows : (need : Need) → row_of put need ≡ answered answer (row_of old need)
  pub recalls : EntersSteps put new
  pub learns : Learns answer old new

-- where a row was filled all that is known was entered; where the job of an answer gave up, the
-- answer changes the row that expects it and no other
abbrev pub EntersOrFrees : BookState → BookState → JobResult → Filled → Type 0
EntersOrFrees old new answer Row = LeavesNone old new
EntersOrFrees old new answer (Released fault) =
    (need : Need) → row_of new need ≡ answered answer (row_of old need)
EntersOrFrees old new answer NotExpected = ⊤
