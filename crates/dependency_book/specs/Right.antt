-- A book that is right for its document.
use Rattle.std.specs.Prelude.{◌≡◌, Some, slice_get}
use Rattle.revision_jobs.specs.declared.answer.Job.{Job}
use Rattle.revision_jobs.specs.Entries.{IsOf, index_of}
use Rattle.desk_events.specs.declared.need.Need.{Need}
use Rattle.desk_events.specs.Right.{IsRight as IsRightCore}
use Rattle.document_marks.specs.AllMarks.{AreMarksOf}
use Rattle.dependency_book.specs.BookState.{BookState, expected}
use Rattle.dependency_book.specs.Core.{core_of}
use Rattle.dependency_book.specs.Rows.{keys}
use Rattle.dependency_book.specs.Said.{said_at}

-- the number of a job was given for the index in the table at which its entry stands
abbrev pub WasIssued : BookState → Job → Type 0
WasIssued d job = slice_get d.indices job.number ≡ Some (index_of job.place)

-- a job is one of the table, and its number was given for its entry and for where that stands
pub record IsGiven (d : BookState) (job : Job) : Type 0 where
  pub own : IsOf d.table job.place
  pub issued : WasIssued d job
  pub entry : slice_get d.entries job.number ≡ Some (said_at job.place)

-- the desk that it shows is right; the rows are those of the document's marks but the start and of
-- its bookmarks, in order; and each job that is out was given
pub record IsRightBook (d : BookState) : Type 0 where
  pub core : IsRightCore (core_of d)
  pub marks : AreMarksOf d.plan (keys d.arrivals)
  pub bookmarks : keys d.texts ≡ d.plan.bookmarks
  pub out : (need : Need) (job : Job) → expected d need ≡ Some job → IsGiven d job
