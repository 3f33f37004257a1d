-- What is to be computed for a row of a book.
use Rattle.std.specs.Prelude.{ℕ}
use Rattle.revision_jobs.specs.declared.entry.Entry.{Entry}
use Rattle.revision_jobs.specs.declared.entry.Rendering.{Rendering}
use Rattle.revision_jobs.specs.declared.entry.Step.{Step as Stepping}
use Rattle.desk_events.specs.declared.mark.Mark.{Mark}
use Rattle.desk_events.specs.declared.need.Need.{Need}
use Rattle.desk_events.specs.Entered.{IsEntryFrom, StepsFrom, ViewsFrom}
use Rattle.dependency_book.specs.BookState.{BookState, arrival_known}
use Rattle.dependency_book.specs.Said.{said, step_said, view_said}

-- the step to a mark, from what is known to arrive before it
abbrev pub StepsTo : BookState → Mark → Stepping → Type 0
StepsTo d mark s = StepsFrom d.plan (arrival_known d) mark (step_said s)

-- the view of a bookmark, of what is known to arrive at its mark
abbrev pub ViewsOf : BookState → ℕ → Rendering → Type 0
ViewsOf d id r = ViewsFrom d.plan (arrival_known d) id (view_said r)

abbrev pub IsEntryOf : BookState → Need → Entry → Type 0
IsEntryOf d need e = IsEntryFrom d.plan (arrival_known d) need (said e)
