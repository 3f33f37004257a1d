-- Which engine may compute an entry.
use Rattle.std.specs.Prelude.{◌≡◌, ℕ, Option, Some, None, ⊤}
use Rattle.std.specs.Arc.{arc_value}
use Rattle.rule_tree.specs.NamedRule.{NamedRule}
use Rattle.rule_tree.specs.Rule.{AreAlike, AreEqual}
use Rattle.step_engine.specs.Kept.{RuleEngine}
use Rattle.revision_jobs.specs.declared.answer.Job.{Job}
use Rattle.revision_jobs.specs.declared.entries.Entries.{Entries}
use Rattle.revision_jobs.specs.declared.entry.Entry.{Entry}
use Rattle.revision_jobs.specs.declared.entry.Entry.TheVariants as entry
use Rattle.revision_jobs.specs.Entries.{IsOf, entry_of}

-- an engine for the rule computes the entry, if that is a step; for a view any will do
abbrev pub EngineComputes : NamedRule → Entry → Type 0
EngineComputes rule (entry.Step s) = AreAlike rule (arc_value s.rule)
EngineComputes rule (entry.View r) = ⊤

-- the rule is that of the entry but for its name, if the entry is a step
abbrev pub HasRule : NamedRule → Entry → Type 0
HasRule rule (entry.Step s) = AreEqual rule (arc_value s.rule)
HasRule rule (entry.View r) = ⊤

-- an engine for the rule of a step, which may hold so many squares; for a view there is none
abbrev pub IsEngineFor : ℕ → Entry → Option (RuleEngine NamedRule) → Type 0
IsEngineFor squares (entry.Step s) (Some engine) =
    engine ≡ record { rule = arc_value s.rule; limit = squares }
IsEngineFor squares (entry.Step s) None = ⊥
IsEngineFor squares (entry.View r) (Some engine) = ⊥
IsEngineFor squares (entry.View r) None = ⊤

-- the job is one of the table, and an engine for the rule computes its entry
pub record CanServe (rule : NamedRule) (entries : Entries) (job : Job) : Type 0 where
  pub own : IsOf entries job.place
  pub serves : EngineComputes rule (entry_of job.place)
