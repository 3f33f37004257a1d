-- The desk of the law that a book shows.
use Rattle.revision_jobs.specs.Value.{Value}
use Rattle.desk_events.specs.Core.{Core, Row, awaits, holds, nothing}
use Rattle.dependency_book.specs.declared.row.RowState.{RowState}
use Rattle.dependency_book.specs.declared.row.RowState.TheVariants.{Empty, Expected, Known}
use Rattle.dependency_book.specs.BookState.{BookState, row_of}

-- what stands in a row: of a job that is out its number
abbrev pub plain_row : RowState Value → Row
plain_row Empty = nothing
plain_row (Expected job) = awaits job.number
plain_row (Known found) = holds found

-- the document, the entries of the numbers that were given, and what stands for each need
abbrev pub core_of : BookState → Core
core_of d =
    record { plan = d.plan; entries = d.entries; rows = λ need. plain_row (row_of d need) }
