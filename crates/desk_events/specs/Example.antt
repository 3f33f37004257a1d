-- Worked lists of events, and where they lead. They show that the law speaks of something.
use Rattle.std.specs.Prelude.{◌≡◌, ℕ, codes, pos, List, [], ◌∷◌, Option, None, Some}
use Rattle.worlds.specs.declared.cell.CellSet.{CellSet}
use Rattle.rule_tree.specs.declared.rule.Kind.TheVariants.{Table as TableKind}
use Rattle.rule_tree.specs.declared.rule.Rule.{Rule}
use Rattle.table_lines.specs.Table.{Table}
use Rattle.table_lines.specs.declared.neighborhood.Neighborhood.TheVariants.{OneDimensional}
use Rattle.table_lines.specs.declared.symmetry.Symmetry.TheVariants as symmetry
use Rattle.table_lines.specs.declared.transition.Entry.TheVariants as entry
use Rattle.table_lines.specs.declared.transition.Transition.{Transition}
use Rattle.bookmarks.specs.declared.view.View.TheVariants.{Counts}
use Rattle.bookmarks.specs.Counts.{counts_text}
use Rattle.schedule.specs.declared.acts.Acts.TheVariants.{Once, Every}
use Rattle.schedule.specs.Asked.{Asked, AddBookmark, AddBranch, Insert, RemoveIntervention, ReplaceRule, SetCells}
use Rattle.schedule.specs.Change.{changed}
use Rattle.desk_events.specs.declared.mark.Mark.{Mark}
use Rattle.desk_events.specs.declared.need.Need.TheVariants.{Step, View}
use Rattle.desk_events.specs.Configuration.{Configuration, IsReached, opened_among, queued_after}
use Rattle.desk_events.specs.Core.{Answer, awaits, current, holds, nothing, pending, pending_of, shown}
use Rattle.desk_events.specs.Entry.{Stepping, Viewing, steps, value, views, world_after, world_seen}
use Rattle.desk_events.specs.Event.{Event, after_event, cancels, collects, issues, kept_row, recalls}
use Rattle.desk_events.specs.Marks.{mark_at}

-- the transition of a cell with these neighbours to the west and the east
abbrev pub line : ℕ → ℕ → ℕ → ℕ → Transition
line cell west east next = record {
  inputs = entry.State cell ∷ entry.State west ∷ entry.State east ∷ [];
  result = entry.State next;
}

-- the table: two states in rows of cells
abbrev pub table_x : Table
table_x = record {
  states = 2;
  neighborhood = OneDimensional;
  symmetry = symmetry.None;
  transitions = line 0 1 0 1 ∷ line 0 0 1 1 ∷ line 1 0 0 0 ∷ line 1 1 1 0 ∷ [];
}

abbrev pub rule_x : Rule
rule_x = record { name = codes "X"; kind = TableKind table_x }

-- the cell at the origin, alive
abbrev pub origin : List CellSet
origin = record { x = pos 0; y = pos 0; state = 1 } ∷ []

-- what is there after an edit that is accepted, and felt from there
abbrev pub after_edit : Asked → Option Mark → Configuration → Configuration
after_edit asked felt c = record c {
  core = record c.core {
    plan = (changed c.core.plan asked).plan;
    rows = λ need. kept_row c.core.plan asked felt (changed c.core.plan asked).plan need
        (c.core.rows need);
  };
}

-- and after another event of the desk
abbrev pub after : Event → Configuration → Configuration
after event c = record c {
  core = after_event c.core event;
  queued = queued_after c.core c.queued event;
}

-- the rule is taken, the cell set, and the counts at generation 8 of branch 0 marked
abbrev pub marked : Configuration
marked =
    after_edit (AddBookmark 0 8 Counts) None
    (after_edit (SetCells origin) (Some (mark_at 0 0))
    (after_edit (ReplaceRule rule_x) (Some (mark_at 0 0)) (opened_among 0)))

-- the step from the start to generation 8, and its answer
abbrev pub whole_way : Stepping
whole_way =
    record { rule = rule_x; from = marked.core.plan.start; cells = []; gens = 8 }

abbrev pub arrived : Answer
arrived = record { number = 0; value = Some (value (steps whole_way)) }

-- job 0, that step, was issued, taken and worked, and its answer isn't collected yet
abbrev pub worked : Configuration
worked =
    record (after (issues (Step 0 8) (steps whole_way)) marked) {
      queued = [];
      answers = arrived ∷ [];
    }

-- an intervention is inserted at generation 4, and then the answer collected
abbrev pub late : Configuration
late =
    record (after (collects arrived)
    (after_edit (Insert 0 (Once 4) origin) (Some (mark_at 0 4)) worked)) { answers = [] }

-- that answer came too late: it changes nothing, and the bookmark is pending
pub record LateAnswer : Type 0 where
  pub reached : IsReached 0 late
  pub row : late.core.rows (Step 0 8) ≡ nothing
  pub shown_so : shown late.core 1 ≡ pending

-- the intervention is removed again before the answer is collected, and then a job is issued anew
abbrev pub anew : Configuration
anew =
    after (issues (Step 0 8) (steps whole_way)) (record (after (collects arrived)
    (after_edit (RemoveIntervention 1) (Some (mark_at 0 4))
    (after_edit (Insert 0 (Once 4) origin) (Some (mark_at 0 4)) worked))) { answers = [] })

-- the old answer stays too late: job 1 is the same step
pub record AnswerOfOld : Type 0 where
  pub reached : IsReached 0 anew
  pub row : anew.core.rows (Step 0 8) ≡ awaits 1
  pub entries : anew.core.entries ≡ steps whole_way ∷ steps whole_way ∷ []
  pub shown_so : shown anew.core 1 ≡ pending

-- the counts of what arrives at generation 8, and their answer
abbrev pub counts : Viewing
counts = record {
  view = Counts;
  from = world_after whole_way;
  cells = [];
  name = codes "X";
  states = 2;
  generation = 8;
}

abbrev pub counted : Answer
counted = record { number = 1; value = Some (value (views counts)) }

-- a bookmark is added at generation 4 in place of the intervention, and then the answer collected
abbrev pub taken : Configuration
taken =
    record (after (collects arrived) (after_edit (AddBookmark 0 4 Counts) None worked)) {
      answers = arrived ∷ [];
    }

-- job 1, the view of the bookmark, is issued, worked and collected, and then the first answer once
-- more
abbrev pub again : Configuration
again =
    record (after (collects arrived) (after (collects counted)
    (after (issues (View 1) (views counts)) taken))) { queued = []; answers = [] }

-- the answer counts although a bookmark came meanwhile, and changes nothing when it comes again;
-- the first bookmark is current, the second is pending
pub record KeptAnswer : Type 0 where
  pub reached : IsReached 0 again
  pub row : taken.core.rows (Step 0 8) ≡ holds (value (steps whole_way))
  pub same : again.core.rows (Step 0 8) ≡ taken.core.rows (Step 0 8)
  pub first : shown again.core 1 ≡ current (counts_text (world_seen counts))
  pub second : shown again.core 2 ≡ pending
  pub one_pending : pending_of again.core ≡ 1

-- the first answer comes twice; one of the two is collected, the other lost
abbrev pub known : Configuration
known = record (after (collects arrived) worked) { answers = [] }

-- a repeating intervention is inserted and removed again, so that the step is wanted anew
abbrev pub undone : Configuration
undone =
    after_edit (RemoveIntervention 1) (Some (mark_at 0 4))
    (after_edit (Insert 0 (Every 4 4 8) origin) (Some (mark_at 0 4)) known)

-- what came of job 0, which is that step, is entered once more
abbrev pub recalled : Configuration
recalled = after (recalls (mark_at 0 8) 0 whole_way) undone

-- the cell at the origin, which is alive at generation 0, is set alive there: that isn't felt
abbrev pub unfelt : Configuration
unfelt = after_edit (Insert 0 (Once 0) origin) None recalled

-- the view of the bookmark is issued as job 1, which is cancelled, and lost
abbrev pub given_up : Configuration
given_up = record (after (cancels 1) (after (issues (View 1) (views counts)) unfelt)) {
  queued = [];
}

-- it is issued anew as job 2, which is worked, and its answer collected
abbrev pub told : Answer
told = record { number = 2; value = Some (value (views counts)) }

abbrev pub viewed : Configuration
viewed = record (after (collects told) (after (issues (View 1) (views counts)) given_up)) {
  queued = [];
}

-- a branch leaves at generation 4, with a bookmark and an intervention that repeats
abbrev pub branched : Configuration
branched =
    after_edit (Insert 1 (Every 5 2 9) origin) (Some (mark_at 1 5))
    (after_edit (AddBookmark 1 8 Counts) None (after_edit (AddBranch 0 4) None viewed))

-- what is known goes where an edit is felt and stays where it isn't, and a recall and a job that is
-- issued anew give it again; in the end the first bookmark is current, that of the branch pending
pub record ManyEvents : Type 0 where
  pub reached : IsReached 0 branched
  pub gone : undone.core.rows (Step 0 8) ≡ nothing
  pub again : recalled.core.rows (Step 0 8) ≡ holds (value (steps whole_way))
  pub stays : unfelt.core.rows (Step 0 8) ≡ holds (value (steps whole_way))
  pub cancelled : given_up.core.rows (View 1) ≡ nothing
  pub first : shown branched.core 1 ≡ current (counts_text (world_seen counts))
  pub second : shown branched.core 2 ≡ pending
  pub one_pending : pending_of branched.core ≡ 1
