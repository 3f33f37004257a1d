-- What entries and answers of a table say.
use Rattle.std.specs.Prelude.{Option, None, Some, Result, Ok, Err}
use Rattle.std.specs.Arc.{arc_value}
use Rattle.step_engine.specs.declared.evolved.EvolveFault.{EvolveFault}
use Rattle.revision_jobs.specs.declared.entries.Place.{Place}
use Rattle.revision_jobs.specs.declared.entry.Entry.{Entry as TableEntry}
use Rattle.revision_jobs.specs.declared.entry.Entry.TheVariants as entry
use Rattle.revision_jobs.specs.declared.entry.Rendering.{Rendering}
use Rattle.revision_jobs.specs.declared.entry.Step.{Step}
use Rattle.revision_jobs.specs.Answer.{JobResult}
use Rattle.revision_jobs.specs.Entries.{entry_of}
use Rattle.revision_jobs.specs.Value.{Value}
use Rattle.desk_events.specs.Core.{Answer}
use Rattle.desk_events.specs.Entry.{Entry, Stepping, Viewing, steps, views}

-- a step, whoever shares its rule and its pattern
abbrev pub step_said : Step → Stepping
step_said s = record {
  rule = arc_value s.rule;
  from = arc_value s.from;
  cells = s.cells;
  gens = s.gens;
}

abbrev pub view_said : Rendering → Viewing
view_said r = record {
  view = r.view;
  from = arc_value r.from;
  cells = r.cells;
  name = r.name;
  states = r.states;
  generation = r.generation;
}

abbrev pub said : TableEntry → Entry
said (entry.Step s) = steps (step_said s)
said (entry.View r) = views (view_said r)

-- the entry at a place
abbrev pub said_at : Place → Entry
said_at place = said (entry_of place)

-- the value that came of a job, if it didn't give up
abbrev pub value_in : Result Value EvolveFault → Option Value
value_in (Ok found) = Some found
value_in (Err fault) = None

-- what an answer says
abbrev pub answer_said : JobResult → Answer
answer_said answer =
    record { number = answer.job.number; value = value_in answer.outcome }
