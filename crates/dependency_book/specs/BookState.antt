-- What a book knows: its document, the worlds that arrive at marks and the texts of bookmarks, and
-- which jobs are out for others.
use Rattle.std.specs.Prelude.{◌≡◌, ℕ, ◌+◌, Bool, not, List, [], length, Option, None, Some, IfSome, count_by, if◌then◌else◌}
use Rattle.worlds.specs.World.{World}
use Rattle.schedule.specs.Plan.{Plan, opening}
use Rattle.revision_jobs.specs.declared.answer.Job.{Job}
use Rattle.revision_jobs.specs.declared.entries.Entries.{Entries}
use Rattle.revision_jobs.specs.Value.{Value, pattern, text}
use Rattle.desk_events.specs.Entry.{Entry}
use Rattle.dependency_book.specs.declared.row.RowState.{RowState}
use Rattle.dependency_book.specs.declared.row.RowState.TheVariants.{Known}
use Rattle.desk_events.specs.declared.mark.Mark.{Mark}
use Rattle.desk_events.specs.declared.need.Need.{Need}
use Rattle.desk_events.specs.declared.need.Need.TheVariants.{Step, View}
use Rattle.desk_events.specs.Marks.{is_start, mark_at}
use Rattle.dependency_book.specs.RowState.{known, is_known, is_empty, job_of, state_map}
use Rattle.dependency_book.specs.Rows.{ArrivalRow, TextRow, state_at, bookmark_rank}
use Rattle.document_marks.specs.AllMarks.{mark_rank}
use Rattle.step_facts.specs.Known.{Fact}

-- the table of entries that its jobs are of, the document, the entry of each number that was given
-- and its index in the table, a row for each of the document's marks but the start, a row for each of
-- its bookmarks, how often an issue was refused because memory ran out, the steps that are remembered
-- with what came of them, and how often memory was wanting for remembering one or looking one up
pub record BookState : Type 0 where
  pub table : Entries
  pub plan : Plan
  pub entries : List Entry
  pub indices : List ℕ
  pub arrivals : List ArrivalRow
  pub texts : List TextRow
  pub refused : ℕ
  pub facts : List Fact
  pub missed : ℕ

-- the book of the opening document, of which nothing is known or out
abbrev pub opened : Entries → ℕ → BookState
opened table revision = record {
  table = table;
  plan = opening revision;
  entries = [];
  indices = [];
  arrivals = [];
  texts = [];
  refused = 0;
  facts = [];
  missed = 0;
}

-- the book with one more issue refused
abbrev pub with_refusal : BookState → BookState
with_refusal d = record d { refused = d.refused + 1 }

-- the book that remembers these steps, for which memory was wanting so often
abbrev pub with_facts : BookState → List Fact → ℕ → BookState
with_facts d facts missed = record d { facts = facts; missed = missed }

-- nothing changes but what is remembered
abbrev pub SameButFacts : BookState → BookState → Type 0
SameButFacts old new = new ≡ with_facts old new.facts new.missed

-- what is remembered is the same
pub record SameFacts (old new : BookState) : Type 0 where
  pub facts : new.facts ≡ old.facts
  pub missed : new.missed ≡ old.missed

-- how many numbers of jobs were given
abbrev pub given_of : BookState → ℕ
given_of d = length d.entries

-- what stands at a mark; at generation 0 of branch 0 the start arrives
abbrev pub arrival_row : BookState → Mark → RowState World
arrival_row d m =
    if is_start m then Known d.plan.start else state_at mark_rank (mark_rank m) d.arrivals

-- what stands for the bookmark of this id
abbrev pub text_row : BookState → ℕ → RowState (List ℕ)
text_row d id = state_at bookmark_rank id d.texts

-- the world that arrives at a mark, if it is known
abbrev pub arrival_known : BookState → Mark → Option World
arrival_known d m = known (arrival_row d m)

-- the text of the bookmark of this id, if it is known
abbrev pub text_known : BookState → ℕ → Option (List ℕ)
text_known d id = known (text_row d id)

-- what stands in the row that a need names
abbrev pub row_of : BookState → Need → RowState Value
row_of d (Step branch mark) = state_map pattern (arrival_row d (mark_at branch mark))
row_of d (View id) = state_map text (text_row d id)

-- the job that is out for it, if one is
abbrev pub expected : BookState → Need → Option Job
expected d need = job_of (row_of d need)

-- no job is out
abbrev pub NothingOut : BookState → Type 0
NothingOut d = (need : Need) → expected d need ≡ None

-- whether the text of a bookmark isn't known
abbrev pub is_pending : TextRow → Bool
is_pending r = not (is_known r.state)

-- how many texts aren't known
abbrev pub pending_of : BookState → ℕ
pending_of d = count_by is_pending d.texts

-- in how many rows nothing stands
abbrev pub empty_rows_of : BookState → ℕ
empty_rows_of d =
    count_by (λ r. is_empty r.state) d.arrivals + count_by (λ r. is_empty r.state) d.texts

-- each text that was known still is
abbrev pub KeepsTexts : BookState → BookState → Type 0
KeepsTexts old new = (id : ℕ) → IfSome (text_known old id) (λ text. text_known new id ≡ Some text)
