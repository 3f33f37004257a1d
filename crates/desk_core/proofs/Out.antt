-- Jobs that are out after one is issued, answered or cancelled.
use Rattle.desk_core.proofs.Names.{BookState, Bool, Empty, EvolveFault, Expected, Fills, IsAnyOut, IsAtHand, IsSome, Job, JobResult, Need, None, Option, Result, RowState, Some, Value, arith, cancelled, expected, false, given_by, has_number}
use Rattle.desk_core.proofs.Names.{if◌then◌else◌, is_job, is_need, issued, job_of, nat_tests, refl, row_of, subst, true, ℕ, ◌≡◌, ◌⊎◌}
use Rattle.desk_core.proofs.Shared.Recalled.{recalls_out}

-- a job is issued
pub issued_out : (old new : BookState) (need : Need) (job : Job)
    → ((other : Need) → row_of new other ≡ issued need job other (row_of old other)) → (other : Need) (out : Job)
    → expected new other ≡ Some out → (expected old other ≡ Some out) ⊎ (Some job ≡ Some out)
issued_out old new need job rows other out h =
    by_test (is_need need other) (row_of old other) (subst (λ r. job_of r ≡ Some out) (rows other) h)
  where
    by_test : (b : Bool) (row : RowState Value) → job_of (if b then Expected job else row) ≡ Some out
        → (job_of row ≡ Some out) ⊎ (Some job ≡ Some out)
    by_test b row is = grind arith

-- rows whose job passes a test are freed, and no other changes
freed_out : (test : Option Job → Bool) (row : RowState Value) → job_of row ≡ None → (old new : BookState)
    → ((need : Need) → row_of new need ≡ (if test (expected old need) then row else row_of old need))
    → (need : Need) (out : Job) → expected new need ≡ Some out
    → (expected old need ≡ Some out) × (test (Some out) ≡ false)
freed_out test row none old new rows need out h =
    by_test (row_of old need) (subst (λ r. job_of r ≡ Some out) (rows need) h)
  where
    by_test : (was : RowState Value) → job_of (if test (job_of was) then row else was) ≡ Some out
        → (job_of was ≡ Some out) × (test (Some out) ≡ false)
    by_test was is = grind arith

not_this : (job other : Job) → is_job job (Some other) ≡ false → Some job ≡ Some other → ⊥
not_this job other h same = grind (arith, nat_tests)

-- an answer comes, and what was computed before is entered
pub filled_out : (old new : BookState) (answer : JobResult) → Fills answer old new → (need : Need) (out : Job)
    → expected new need ≡ Some out → (expected old need ≡ Some out) × (Some answer.job ≡ Some out → ⊥)
filled_out old new answer h need out is =
    let left = freed_out (is_job answer.job) (given_by answer.outcome) (none_given answer.outcome) old h.put h.rows need
    out (recalls_out h.put new need out h.recalls is) in
    (left.0, not_this answer.job out left.1)
  where
    none_given : (outcome : Result Value EvolveFault) → job_of (given_by outcome) ≡ None
    none_given outcome = grind arith

-- a job is cancelled
pub cancelled_out : (number : ℕ) (old new : BookState)
    → ((need : Need) → row_of new need ≡ cancelled number (row_of old need)) → (need : Need) (out : Job)
    → expected new need ≡ Some out → (expected old need ≡ Some out) × (has_number number (Some out) ≡ false)
cancelled_out number old new = freed_out (has_number number) Empty refl old new

pub not_numbered : (job other : Job) → has_number job.number (Some other) ≡ false → Some job ≡ Some other → ⊥
not_numbered job other h same = grind (arith, nat_tests)

-- what is held alone
pub held_alone : (held : Option Job) (job : Job) → (None ≡ Some job) ⊎ (held ≡ Some job) → held ≡ Some job
held_alone held job h = grind arith

-- where a job is out and none is left to send, the post holds one
pub held_out : (d : BookState) (held : Option Job) → IsAnyOut d true → IsAtHand None held d → (job : Job)
    × (held ≡ Some job)
held_out d held any at_hand =
    let out = some_job (expected d any.0) any.1 in
    (out.0, held_alone held out.0 (at_hand any.0 out.0 out.1))
  where
    some_job : (job : Option Job) → IsSome job → (found : Job) × (job ≡ Some found)
    some_job None h = absurd (cc)
    some_job (Some job) h = (job, refl)
