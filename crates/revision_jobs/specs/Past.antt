-- The list of answers that a past stands for.
use Rattle.std.specs.Prelude.{List, [], ◌∷◌, ◌++◌}
use Rattle.revision_jobs.specs.Answer.{JobResult}
use Rattle.revision_jobs.specs.declared.past.Past.{Past}
use Rattle.revision_jobs.specs.declared.past.Past.TheOpen.{Past-F, Nothing, Then}
use Rattle.revision_jobs.specs.declared.past.Past.TheFolds.{fold-Past}

-- the list, from that of the past before
abbrev pub list_step : Past-F (List JobResult) → List JobResult
list_step Nothing = []
list_step (Then before last) = before.value ++ last.value ∷ []

-- the answers of a past, the latest last
abbrev pub list_of : Past → List JobResult
list_of = fold-Past (List JobResult) list_step
