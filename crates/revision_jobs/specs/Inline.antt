-- What a post without threads is.
use Rattle.std.specs.Prelude.{ℕ, Option, None, IfSome, true}
use Rattle.revision_jobs.specs.declared.entries.Entries.{Entries}
use Rattle.revision_jobs.specs.declared.answer.Job.{Job}
use Rattle.revision_jobs.specs.Entries.{IsOf}
use Rattle.revision_jobs.specs.Posted.{PostHistory, PostView, no_history}

-- a prompt post with this history
abbrev pub inline_view : Entries → ℕ → ℕ → Option Job → PostHistory → PostView
inline_view entries squares floor held history = record {
  table = entries;
  limit = squares;
  floor = floor;
  answers = history.answers;
  is_prompt = true;
  held = held;
  asked = history.asked;
  stops = history.stops;
  is_over = history.is_over;
}

-- a prompt post of the table that holds no job and wasn't asked yet
abbrev pub new_inline : Entries → ℕ → PostView
new_inline entries squares = inline_view entries squares 0 None no_history

-- a job that it holds is of its table
abbrev pub IsHeldOf : Entries → Option Job → Type 0
IsHeldOf table held = IfSome held (λ job. IsOf table job.place)
