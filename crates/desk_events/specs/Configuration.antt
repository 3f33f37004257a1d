-- A desk among whoever works its jobs, and what may happen there, in any order.
use Rattle.std.specs.Prelude.{◌≡◌, ◌⊎◌, ℕ, List, [], ◌∷◌, ◌++◌, length}
use Rattle.desk_events.specs.Core.{Answer, Core, opened}
use Rattle.desk_events.specs.Event.{CanHappen, Event, IsTrueAnswer, after_event, cancels, collects, edits, issues, recalls}

-- the desk, the numbers of the jobs that are queued, those that a worker took and hasn't answered,
-- each with the worker, and the answers that weren't collected
pub record Configuration : Type 0 where
  pub core : Core
  pub queued : List ℕ
  pub taken : List (ℕ × ℕ)
  pub answers : List Answer

-- an event of the desk; a worker takes a queued job, finishes one with an answer, or drops one; a
-- queued job or an answer is lost; an answer comes once more
pub data Happening : Type 0 where
  desk : Event → Happening
  takes : ℕ → ℕ → Happening
  finishes : ℕ → Answer → Happening
  abandons : ℕ → ℕ → Happening
  loses_job : ℕ → Happening
  loses_answer : Answer → Happening
  echoes : Answer → Happening

-- the second list is the first without one member
pub record IsWithout {A : Type 0} (x : A) (xs ys : List A) : Type 0 where
  pub before : List A
  pub after : List A
  pub there : xs ≡ before ++ x ∷ after
  pub gone : ys ≡ before ++ after

-- the jobs that are queued after an event of the desk: one more where one is issued
abbrev pub queued_after : Core → List ℕ → Event → List ℕ
queued_after c queued (edits asked felt) = queued
queued_after c queued (issues need entry) = queued ++ length c.entries ∷ []
queued_after c queued (collects answer) = queued
queued_after c queued (cancels number) = queued
queued_after c queued (recalls mark number s) = queued

-- the answers that are left after an event of the desk: one less where one is collected
abbrev pub AnswersAfter : Event → List Answer → List Answer → Type 0
AnswersAfter (edits asked felt) before after = after ≡ before
AnswersAfter (issues need entry) before after = after ≡ before
AnswersAfter (collects answer) before after = IsWithout answer before after
AnswersAfter (cancels number) before after = after ≡ before
AnswersAfter (recalls mark number s) before after = after ≡ before

-- an event of the desk happens
pub record HappensToDesk (event : Event) (c d : Configuration) : Type 0 where
  pub can : CanHappen c.core event
  pub core : d.core ≡ after_event c.core event
  pub queued : d.queued ≡ queued_after c.core c.queued event
  pub taken : d.taken ≡ c.taken
  pub answers : AnswersAfter event c.answers d.answers

-- a worker takes a queued job
pub record Takes (worker number : ℕ) (c d : Configuration) : Type 0 where
  pub core : d.core ≡ c.core
  pub queued : IsWithout number c.queued d.queued
  pub taken : d.taken ≡ (worker, number) ∷ c.taken
  pub answers : d.answers ≡ c.answers

-- a worker answers a job that it took, with the value of the job's entry or with none
pub record Finishes (worker : ℕ) (answer : Answer) (c d : Configuration) : Type 0 where
  pub value_is : IsTrueAnswer c.core.entries answer
  pub core : d.core ≡ c.core
  pub queued : d.queued ≡ c.queued
  pub taken : IsWithout (worker, answer.number) c.taken d.taken
  pub answers : d.answers ≡ answer ∷ c.answers

-- a worker drops a job that it took
pub record Abandons (worker number : ℕ) (c d : Configuration) : Type 0 where
  pub core : d.core ≡ c.core
  pub queued : d.queued ≡ c.queued
  pub taken : IsWithout (worker, number) c.taken d.taken
  pub answers : d.answers ≡ c.answers

-- a queued job is lost
pub record LosesJob (number : ℕ) (c d : Configuration) : Type 0 where
  pub core : d.core ≡ c.core
  pub queued : IsWithout number c.queued d.queued
  pub taken : d.taken ≡ c.taken
  pub answers : d.answers ≡ c.answers

-- an answer is lost
pub record LosesAnswer (answer : Answer) (c d : Configuration) : Type 0 where
  pub core : d.core ≡ c.core
  pub queued : d.queued ≡ c.queued
  pub taken : d.taken ≡ c.taken
  pub answers : IsWithout answer c.answers d.answers

-- an answer comes once more
pub record Echoes (answer : Answer) (c d : Configuration) : Type 0 where
  pub others : List Answer
  pub there : IsWithout answer c.answers others
  pub core : d.core ≡ c.core
  pub queued : d.queued ≡ c.queued
  pub taken : d.taken ≡ c.taken
  pub answers : d.answers ≡ answer ∷ c.answers

-- what happens leads from one configuration to another
abbrev pub Happens : Happening → Configuration → Configuration → Type 0
Happens (desk event) c d = HappensToDesk event c d
Happens (takes worker number) c d = Takes worker number c d
Happens (finishes worker answer) c d = Finishes worker answer c d
Happens (abandons worker number) c d = Abandons worker number c d
Happens (loses_job number) c d = LosesJob number c d
Happens (loses_answer answer) c d = LosesAnswer answer c d
Happens (echoes answer) c d = Echoes answer c d

-- all of these happen, one after another; what can't happen changes nothing
abbrev pub HappenAll : List Happening → Configuration → Configuration → Type 0
HappenAll [] c e = e ≡ c
HappenAll (h ∷ hs) c e = (d : Configuration) × (Happens h c d ⊎ (d ≡ c)) × HappenAll hs d e

-- a desk that was just opened, for which nobody works
abbrev pub opened_among : ℕ → Configuration
opened_among revision =
    record { core = opened revision; queued = []; taken = []; answers = [] }

-- some list of these, from the opening on, leads there
pub record IsReached (revision : ℕ) (c : Configuration) : Type 0 where
  pub happenings : List Happening
  pub all : HappenAll happenings (opened_among revision) c
