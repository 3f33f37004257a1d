-- What stands in a row: nothing, a job that is out for it, or the value.
use Rattle.std.specs.Prelude.{ℕ, Bool, true, false, List, [], ◌∷◌, Option, None, Some, IfSome, is_some, if◌then◌else◌, ◌==◌, min}
use Rattle.std.specs.List.{AllByRecursion, list_any}
use Rattle.revision_jobs.specs.declared.answer.Job.{Job}
use Rattle.revision_jobs.specs.declared.entries.Entries.{Entries}
use Rattle.revision_jobs.specs.declared.entries.Place.{Place}
use Rattle.revision_jobs.specs.Entries.{IsOf}
use Rattle.dependency_book.specs.declared.row.RowState.{RowState}
use Rattle.dependency_book.specs.declared.row.RowState.TheVariants.{Empty, Expected, Known}
use Rattle.dependency_book.specs.declared.row.Row.{Row}

-- the value, if it is known
abbrev pub known : {V : Type 0} → RowState V → Option V
known Empty = None
known (Expected job) = None
known (Known value) = Some value

-- whether it is known
abbrev pub is_known : {V : Type 0} → RowState V → Bool
is_known state = is_some (known state)

-- whether nothing is known and no job is out
abbrev pub is_empty : {V : Type 0} → RowState V → Bool
is_empty Empty = true
is_empty (Expected job) = false
is_empty (Known value) = false

-- the job that is out, if one is
abbrev pub job_of : {V : Type 0} → RowState V → Option Job
job_of Empty = None
job_of (Expected job) = Some job
job_of (Known value) = None

-- the same of what is made of the value
abbrev pub state_map : {V W : Type 0} → (V → W) → RowState V → RowState W
state_map f Empty = Empty
state_map f (Expected job) = Expected job
state_map f (Known value) = Known (f value)

-- whether a job of this number is out
abbrev pub has_number : ℕ → Option Job → Bool
has_number n None = false
has_number n (Some job) = job.number == n

-- the key with the place of the job, if the job has this number
abbrev pub named_by : {K : Type 0} → ℕ → K → Option Job → Option (K × Place)
named_by n key None = None
named_by n key (Some job) = if job.number == n then Some (key, job.place) else None

-- the first of two, if there is any
abbrev pub either : {A : Type 0} → Option A → Option A → Option A
either None other = other
either (Some a) other = Some a

-- the key of the first row that expects the job of this number, with the place of the job's entry
abbrev pub row_for : {K V : Type 0} → ℕ → List (Row K V) → Option (K × Place)
row_for n [] = None
row_for n (r ∷ rs) = either (named_by n r.key (job_of r.state)) (row_for n rs)

-- whether a row expects a job
abbrev pub any_out : {K V : Type 0} → List (Row K V) → Bool
any_out rows = list_any (λ r. is_some (job_of r.state)) rows

-- the job that a row expects, if there is one, has its entry in this table
abbrev pub IsOutOf : {K V : Type 0} → Entries → Row K V → Type 0
IsOutOf entries r = IfSome (job_of r.state) (λ job. IsOf entries job.place)

-- so has each job that rows expect
abbrev pub OutsAreOf : {K V : Type 0} → Entries → List (Row K V) → Type 0
OutsAreOf entries rows = AllByRecursion (IsOutOf entries) rows

-- the lesser of two numbers, if there is any
abbrev pub lesser : Option ℕ → Option ℕ → Option ℕ
lesser None other = other
lesser (Some m) None = Some m
lesser (Some m) (Some n) = Some (min m n)

-- the number of a job, if there is one
abbrev pub number_of : Option Job → Option ℕ
number_of None = None
number_of (Some job) = Some job.number

-- the least number of the jobs that rows expect
abbrev pub least_out : {K V : Type 0} → List (Row K V) → Option ℕ
least_out [] = None
least_out (r ∷ rs) = lesser (number_of (job_of r.state)) (least_out rs)
