-- What is seen of a settling.
use Rattle.std.specs.Prelude.{◌≡◌, ◌⊎◌, ◌+◌, List, [], ◌∷◌, length}
use Rattle.std.specs.List.{AllByRecursion}
use Rattle.revision_jobs.specs.Posted.{PostView}
use Rattle.schedule.specs.Plan.{Plan}
use Rattle.dependency_book.specs.BookState.{BookState}

-- a desk was seen, or it wasn't and nothing changed
abbrev pub LooksAt : {O : Type 0} → (O → BookState → O → Type 0) → O → BookState → O → Type 0
LooksAt sees old d new = sees old d new ⊎ (new ≡ old)

-- one desk after another was looked at
abbrev pub LooksAtEach
    : {O : Type 0} → (O → BookState → O → Type 0) → O → List BookState → O → Type 0
LooksAtEach sees old [] new = new ≡ old
LooksAtEach {O} sees old (d ∷ ds) new =
    (next : O) × LooksAt sees old d next × LooksAtEach sees next ds new

-- each of these desks has this document
abbrev pub AreOfPlan : Plan → List BookState → Type 0
AreOfPlan plan = AllByRecursion (λ (d : BookState). d.plan ≡ plan)

-- a settling that began with this desk was looked at as it began, and once more after each answer
-- that its post gave; its document stayed the same
pub record LooksOn {O : Type 0} (sees : O → BookState → O → Type 0) (p q : PostView)
    (first : BookState) (old new : O)
    : Type 0 where
  pub later : List BookState
  pub document : AreOfPlan first.plan later
  pub answers : length q.answers ≡ length p.answers + length later
  pub looks : LooksAtEach sees old (first ∷ later) new

-- a post gave an answer, and then the desk was looked at; or it gave none, and nobody looked
abbrev pub LooksIfAnswered
    : {O : Type 0} → (O → BookState → O → Type 0) → PostView → PostView → BookState → O → O → Type 0
LooksIfAnswered sees p q d old new =
    ((length q.answers ≡ length p.answers + 1) × LooksAt sees old d new)
    ⊎ ((length q.answers ≡ length p.answers) × (new ≡ old))
