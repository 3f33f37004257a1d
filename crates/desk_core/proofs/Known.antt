-- What is known stays so while jobs come and go.
use Rattle.desk_core.proofs.Names.{BookState, Bool, Empty, Expected, Fills, IssuesFor, Job, JobResult, KeepsKnown, Known, Need, RowState, Stays, Value, answered, ap, arith, cancelled, if◌then◌else◌, is_need, need_is, recalls_row, row_of}
use Rattle.desk_core.proofs.Names.{sym, true, ℕ, ◌∙◌, ◌≡◌, ◌⊎◌}

-- what was known stays where rows in which something stood do
pub KeepsKnown-stays : (old new : BookState)
    → ((need : Need) → (row_of old need ≡ Empty) ⊎ (row_of new need ≡ row_of old need)) → KeepsKnown old new
KeepsKnown-stays old new stays need value is = by_row (row_of old need) (row_of new need) (stays need) is
  where
    by_row : (a b : RowState Value) → (a ≡ Empty) ⊎ (b ≡ a) → a ≡ Known value → b ≡ Known value
    by_row a b stay there = grind arith

-- a job is issued for a row in which nothing stands
pub stays-issued : (old new : BookState) (need : Need) (job : Job) → IssuesFor old new job need → (other : Need)
    → (row_of old other ≡ Empty) ⊎ (row_of new other ≡ row_of old other)
stays-issued old new need job issued other =
    stays (is_need need other) (row_of old other) (row_of new other)
    (λ this. ap (row_of old) (sym (need_is need other this)) ∙ issued.empty) (issued.is.rows other)
  where
    stays : (b : Bool) (was is : RowState Value) → (b ≡ true → was ≡ Empty) → is ≡ (if b then Expected job else was)
        → (was ≡ Empty) ⊎ (is ≡ was)
    stays b was is empty issues = grind arith

-- a job is cancelled
pub KeepsKnown-cancelled : (old new : BookState) (number : ℕ)
    → ((need : Need) → row_of new need ≡ cancelled number (row_of old need)) → KeepsKnown old new
KeepsKnown-cancelled old new number rows need value is = rows need ∙ ap (cancelled number) is

-- an answer comes, and what was computed before is entered
pub KeepsKnown-filled : (old new : BookState) (answer : JobResult) → Fills answer old new → KeepsKnown old new
KeepsKnown-filled old new answer h need value is =
    by_row (row_of h.put need) (row_of new need) (recalls_row h.put new need h.recalls)
    (h.rows need ∙ ap (answered answer) is)
  where
    by_row : (a b : RowState Value) → Stays a b → a ≡ Known value → b ≡ Known value
    by_row a b stay there = grind arith
