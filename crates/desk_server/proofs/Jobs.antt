-- What is out after jobs were dropped.
use Rattle.desk_server.proofs.Names.{Asked, BookState, CarriesOn, Cause, DropsJobs, IfNone, IfSome, IsDoneWith, IsFirstOut, IsFresh, IsOpened, IsSome, JobResult, KeepsCauses, List, None, NothingOut, Option, PostMatchesDesk, PostView}
use Rattle.desk_server.proofs.Names.{SameBook, Some}
use Rattle.desk_server.proofs.Names.{ap, arith, cancelled, expected, false, has_number, job_of, length, nat_tests, opened, pending_of, refl, row_of, state_map, subst, sym, true, ℕ, ◌-◌, ◌<◌, ◌==◌, ◌^◌, ◌≡◌, ◌≢◌, ◌≤◌}
use Rattle.revision_jobs.specs.declared.entries.Entries.{Entries}
use Rattle.revision_jobs.specs.declared.answer.Job.{Job}
use Rattle.revision_jobs.specs.Value.{Value}
use Rattle.dependency_book.specs.declared.row.RowState.{RowState}
use Rattle.dependency_book.specs.declared.row.RowState.TheVariants.{Known}
use Rattle.desk_events.specs.declared.need.Need.{Need}
use Rattle.desk_events.specs.declared.need.Need.TheVariants.{Step, View}
use Rattle.dependency_book.specs.Kept.{KeepsRows}
use Rattle.desk_events.specs.declared.mark.Mark.{Mark}
use Rattle.dependency_book.specs.Recalled.{Revises}
use Rattle.desk_core.proofs.Shared.Recalled.{recalls_out}
use Rattle.desk_events.specs.Marks.{mark_at}
use Rattle.desk_core.specs.Settling.{Explains, HoldsJobsOut, IsWhy, SawStop, ServesOn}
use Rattle.dependency_book.specs.Right.{IsRightBook}
use Rattle.dependency_book.proofs.Shared.Opened.{opened_held}
use Rattle.desk_core.proofs.Shared.Given.{same_given}

-- where nothing is dropped
pub drops_none : (old new : BookState) → new ≡ old → DropsJobs old new
drops_none old new same = grind (arith)

pub drops_drops : (a b c : BookState) → DropsJobs a b → DropsJobs b c → DropsJobs a c
drops_drops a b c f g = grind (arith)

-- what is out of a row that was emptied or not
-- cancelling
cancelled_out : (n : ℕ) (old new : BookState) → ((need : Need) → row_of new need ≡ cancelled n (row_of old need))
    → (need : Need) (job : Job) → expected new need ≡ Some job
    → (expected old need ≡ Some job) × (has_number n (expected old need) ≡ false)
cancelled_out n old new rows need job e = grind (arith)

pub cancel_drops : (n : ℕ) (old new : BookState) → ((need : Need) → row_of new need ≡ cancelled n (row_of old need))
    → SameBook old new → DropsJobs old new
cancel_drops n old new rows same = grind (arith, cancelled_out, same_given)

-- what is known isn't out
pub known_stays : (n : ℕ) (value : Value) (old new : RowState Value) → new ≡ cancelled n old → old ≡ Known value
    → new ≡ Known value
known_stays n value old new is known = grind (arith)

-- the first number that is out rises
its_number : (n : ℕ) (o : Option Job) → has_number n o ≡ true → (job : Job) × (o ≡ Some job)
    × ((job.number == n) ≡ true)
its_number n None h = absurd (cc)
its_number n (Some job) h = (job, refl, h)

-- how many numbers are from the first one on
abbrev pub numbers_from : Option ℕ → ℕ
numbers_from None = 0
numbers_from (Some n) = 2 ^ 32 - n

pub first_falls : (n : ℕ) (next : Option ℕ) (old new : BookState) → n < 2 ^ 32
    → ((need : Need) → row_of new need ≡ cancelled n (row_of old need)) → IsFirstOut old (Some n) → IsFirstOut new next
    → numbers_from next < numbers_from (Some n)
first_falls n next old new few rows before after = grind (arith, nat_tests, cancelled_out, its_number)

-- an edit
out_of_map : {V W : Type 0} (f : V → W) (row : RowState V) → job_of (state_map f row) ≡ job_of row
out_of_map f row = grind (arith)

edit_keeps_out : (asked : Asked) (felt : Option Mark) (old new : BookState) → KeepsRows asked felt old new
    → (need : Need) (job : Job) → expected new need ≡ Some job → expected old need ≡ Some job
edit_keeps_out asked felt old new keeps (Step branch g) job e =
    grind (arith, out_of_map, keeps.arrivals (mark_at branch g))
edit_keeps_out asked felt old new keeps (View id) job e = grind (arith, out_of_map, keeps.texts id)

pub edit_drops : (asked : Asked) (old new : BookState) → Revises asked old new → DropsJobs old new
edit_drops asked old new h = record {
  table = h.table;
  given = ap (λ es. length es) h.entries;
  out = λ need job e.
      edit_keeps_out asked h.keeps.felt old h.kept h.keeps.keeps need job (recalls_out h.kept new need job h.recalls e);
}

-- at the beginning
none_opened : (table : Entries) (held : Option Job) → HoldsJobsOut held (opened table 0)
none_opened table held need job e = grind (arith, out_of_map)

pub opened_right : (d : BookState) → IsOpened d → IsRightBook d
opened_right d opens = subst IsRightBook (sym opens) (opened_held d.table 0).right

pub is_opened : (d : BookState) (table : Entries) → d ≡ opened table 0 → IsOpened d
is_opened d table same = subst IsOpened (sym same) refl

pub carries_first : (post : PostView) (entries : Entries) (d : BookState) → d ≡ opened entries 0 → IsFresh post entries
    → PostMatchesDesk post d
carries_first post entries d same fresh = rw same (record {
  serves = record { table = fresh.own; numbers = subst (λ n. n ≤ 0) (sym fresh.none) (omega arith) };
  out = λ _. none_opened entries post.held;
})

-- where some text isn't known, no job is out
pub nothing_out : (d : BookState) (n : ℕ) → IsDoneWith d → n ≡ pending_of d → n ≢ 0 → NothingOut d
nothing_out d n h is some = grind (arith)

-- a post that wasn't touched carries the jobs of a desk that gave no new ones
-- what explained a cause before jobs were given up
pub causes_kept : (limit : ℕ) (first old new : BookState) (answers : List JobResult) (cause : Option Cause)
    → KeepsCauses old new → IfSome cause (Explains limit first old answers)
    → IfSome cause (Explains limit first new answers)
causes_kept limit first old new answers cause keeps h = grind (arith)

-- the cause of a settling, if it has one, is explained
pub why_explained : (turns : ℕ) (p q : PostView) (old new : BookState) (later : List JobResult) (cause : Option Cause)
    → IsWhy turns p q old new later cause → IfSome cause (Explains p.limit old new later)
why_explained turns p q old new later cause h = grind (arith)

-- and that a job was stopped is told of a prompt post only where it saw a flag raised
pub why_stopped : (turns : ℕ) (p q : PostView) (old new : BookState) (later : List JobResult) (cause : Option Cause)
    → IsWhy turns p q old new later cause → IfSome cause (SawStop p q)
why_stopped turns p q old new later cause h = grind (arith)

-- a cause that is told
pub none_untold : (cause : Option Cause) (fact : Type 0) → IsSome cause → IfNone cause fact
none_untold cause fact some = grind (arith)

-- a post that serves the desk on carries on
pub carries_served : (first last : PostView) (old new : BookState) → PostMatchesDesk first old → ServesOn first last old new
    → CarriesOn first last new
carries_served first last old new c s = grind (arith)

-- what a desk is left with that gave jobs up after a post carried on
pub carries_on : (first last : PostView) (mid new : BookState) → DropsJobs mid new → CarriesOn first last mid
    → CarriesOn first last new
carries_on first last mid new drops c = grind (arith)

-- after one command, and then another
pub carries_further : (first mid last : PostView) (d : BookState) → mid.limit ≡ first.limit
    → mid.is_prompt ≡ first.is_prompt → CarriesOn mid last d → CarriesOn first last d
carries_further first mid last d limit kind c = grind (arith)
