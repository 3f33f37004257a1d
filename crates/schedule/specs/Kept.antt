-- What the fields of a document say.
use Rattle.std.specs.Arc.{arc_value}
use Rattle.schedule.specs.declared.document.Document.TheInside.{Inside}
use Rattle.schedule.specs.Plan.{Plan}

abbrev pub plan_of : Inside → Plan
plan_of d = record {
  rule = arc_value d.rule;
  start = arc_value d.start;
  interventions = d.interventions.items;
  bookmarks = d.bookmarks.items;
  branches = d.branches.items;
  revision = d.revision;
  last_intervention = d.last_intervention;
  last_bookmark = d.last_bookmark;
  last_branch = d.last_branch;
}
