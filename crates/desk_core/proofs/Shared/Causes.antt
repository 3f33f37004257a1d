-- What explains a cause explains it still, while jobs come and go.
use Rattle.desk_core.proofs.Names.{BookState, Cause, Err, EvolveFault, Explains, IfSome, IsOwnAnswer, IssueFault, JobResult, List, Option, PostView, RanOut, Receives, RefusesIssue, Result, SameBook, SawStop, Some, Value, [], arith}
use Rattle.desk_core.proofs.Names.{append-nil, cause_of_answer, cause_of_issue, common_steps, entry_of, get_or-append-add, given_of, inl, inr, length, refl, subst, sym, ℕ, ◌++◌, ◌+◌, ◌<◌, ◌∙◌, ◌∷◌, ◌≡◌, ◌≤◌}
use Rattle.std.specs.List.{Any}
use Rattle.worlds.specs.Stop.{CountsStop}
use Rattle.std.proofs.Math.ListN.{get_or-append}
use Rattle.revision_jobs.specs.declared.post.Received.TheVariants.{Answer}
use Rattle.revision_jobs.specs.Room.{HasNoRoom}
use Rattle.revision_jobs.specs.declared.entries.Entries.{Entries}
use Rattle.desk_core.specs.declared.issue.IssueFault.TheVariants as issue

-- one of more answers

any-before : (P : JobResult → Type 0) (answers more : List JobResult) → Any P answers → Any P (answers ++ more)
any-before P answers more h = (h.0, h.1, longer, get_or-append answers more h.1 h.0 h.2 ∙ h.3, h.4)
  where
    longer : h.0 < length (answers ++ more)
    longer = let low = h.2 in grind (arith, common_steps)

any-last : (P : JobResult → Type 0) (answers : List JobResult) (answer : JobResult) → P answer
    → Any P (answers ++ answer ∷ [])
any-last P answers answer says =
    (length answers + 0, answer, longer, get_or-append-add answers (answer ∷ []) 0 answer, says)
  where
    longer : length answers + 0 < length (answers ++ answer ∷ [])
    longer = grind (arith, common_steps)

-- an answer says that its job gave up, or that for its entry there is no room

abbrev Gave : EvolveFault → JobResult → Type 0
Gave fault answer = answer.outcome ≡ Err fault

abbrev FoundNone : ℕ → JobResult → Type 0
FoundNone limit answer = (answer.outcome ≡ Err EvolveFault.NoRoom) × HasNoRoom limit (entry_of answer.job.place)

-- causes

-- a cause fits still where no more numbers are given and no issue is refused
pub explains-kept : (limit : ℕ) (first old new : BookState) (answers more : List JobResult) (cause : Option Cause)
    → SameBook old new → IfSome cause (Explains limit first old answers)
    → IfSome cause (Explains limit first new (answers ++ more))
explains-kept limit first old new answers more cause same h =
    let memory = any-before (Gave EvolveFault.NoMemory) answers more in
    let room = any-before (FoundNone limit) answers more in
    let stopped = any-before (Gave EvolveFault.Stopped) answers more in
    grind (arith, memory, room, stopped)

-- why a job gave up fits: for want of room only where its entry has none at the limit
pub explains-released : (limit : ℕ) (table : Entries) (first new : BookState) (answers : List JobResult)
    (answer : JobResult) (fault : EvolveFault) → IsOwnAnswer table limit answer → answer.outcome ≡ Err fault
    → Explains limit first new (answers ++ answer ∷ []) (cause_of_answer fault)
explains-released limit table first new answers answer EvolveFault.NoMemory own gave =
    inl (any-last (Gave EvolveFault.NoMemory) answers answer gave)
explains-released limit table first new answers answer EvolveFault.Stopped own gave =
    any-last (Gave EvolveFault.Stopped) answers answer gave
explains-released limit table first new answers answer EvolveFault.NoRoom own gave =
    any-last (FoundNone limit) answers answer (gave, own.room gave)

-- so does an issue that was refused
pub explains-refused : (limit : ℕ) (first old new : BookState) (answers : List JobResult) (fault : IssueFault)
    → first.refused ≤ old.refused → RefusesIssue old new fault → Explains limit first new answers (cause_of_issue fault)
explains-refused limit first old new answers issue.NumbersSpent before h =
    subst (λ (d : BookState). 16777216 ≤ given_of d) (sym h.2) h.1
explains-refused limit first old new answers issue.NoMemory before h =
    inr (subst (RanOut first) (sym h.2) (omega (arith, before), h.1))

-- and a stop only where a flag was seen raised

pub saw-released : (begun p q : PostView) (answer : JobResult) (fault : EvolveFault) → begun.stops ≤ p.stops
    → Receives p q (Answer answer) → answer.outcome ≡ Err fault → SawStop begun q (cause_of_answer fault)
saw-released begun p q answer EvolveFault.Stopped before receives gave = omega (arith, before, receives.stops.stopped gave)
saw-released begun p q answer fault before receives gave = tt

-- flags that were seen raised are never fewer with an answer
pub saw-more : (p q : PostView) (answer : JobResult) → Receives p q (Answer answer) → p.stops ≤ q.stops
saw-more p q answer receives = counted p.stops q.stops answer.outcome receives.stops
  where
    counted : (before after : ℕ) (outcome : Result Value EvolveFault)
        → CountsStop outcome (Err EvolveFault.Stopped) before after → before ≤ after
    counted before after (Err EvolveFault.Stopped) counts = omega (arith, counts.stopped refl)
    counted before after outcome counts = omega (arith, counts.went_on (λ is. absurd cc))

-- what was seen raised was so however many more are
pub saw-on : (begun p q : PostView) (cause : Option Cause) → p.stops ≤ q.stops → IfSome cause (SawStop begun p)
    → IfSome cause (SawStop begun q)
saw-on begun p q cause more h = grind arith

-- the refusal of an issue is no stop
pub saw-refused : (p q : PostView) (fault : IssueFault) → SawStop p q (cause_of_issue fault)
saw-refused p q issue.NumbersSpent = tt
saw-refused p q issue.NoMemory = tt

-- what explains a cause explains it while no more numbers are given and no issue is refused
pub explains-cancelled : (limit : ℕ) (first old new : BookState) → SameBook old new → (answers : List JobResult)
    (cause : Cause) → Explains limit first old answers cause → Explains limit first new answers cause
explains-cancelled limit first old new same answers cause h =
    subst (λ xs. Explains limit first new xs cause) (append-nil answers)
    (explains-kept limit first old new answers [] (Some cause) same h)
