-- The list of slips that the jobs of a past have.
use Rattle.std.specs.Prelude.{List, [], ◌∷◌, ◌++◌}
use Rattle.job_queue.specs.declared.rule.Slip.{Slip}
use Rattle.job_queue.specs.Slips.{slip_of}
use Rattle.job_pool.specs.declared.sent.Past.{Past}
use Rattle.job_pool.specs.declared.sent.Past.TheOpen.{Past-F, Nothing, Then}
use Rattle.job_pool.specs.declared.sent.Past.TheFolds.{fold-Past}

-- the list, from that of the past before
abbrev pub list_step : Past-F (List Slip) → List Slip
list_step Nothing = []
list_step (Then before last) = before.value ++ slip_of last.value ∷ []

-- the slips of a past, the latest last
abbrev pub list_of : Past → List Slip
list_of = fold-Past (List Slip) list_step
