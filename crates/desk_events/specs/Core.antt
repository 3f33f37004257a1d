-- A desk: its document, the entries of its jobs, and what stands for each need.
use Rattle.std.specs.Prelude.{ℕ, Bool, true, false, List, [], Option, None, Some, count_by, if◌then◌else◌}
use Rattle.worlds.specs.World.{World, blank}
use Rattle.schedule.specs.declared.document.Bookmark.{Bookmark}
use Rattle.schedule.specs.Plan.{Plan, opening}
use Rattle.bookmarks.specs.Value.{Value, pattern, text}
use Rattle.desk_events.specs.declared.mark.Mark.{Mark}
use Rattle.desk_events.specs.declared.need.Need.{Need}
use Rattle.desk_events.specs.declared.need.Need.TheVariants.{Step, View}
use Rattle.desk_events.specs.Entry.{Entry}
use Rattle.desk_events.specs.Marks.{is_start, mark_at}
use Rattle.desk_events.specs.Needs.{is_need, step_to}
use Rattle.desk_events.specs.Wanted.{bookmark_in}

-- nothing; the number of the job that is out for a need; or its value, which is known
pub data Row : Type 0 where
  nothing : Row
  awaits : ℕ → Row
  holds : Value → Row

-- the document, the entry of each number that was given, in order, and what stands for each need
pub record Core : Type 0 where
  pub plan : Plan
  pub entries : List Entry
  pub rows : Need → Row

-- what came of the job of a number: its value, or none because it gave up
pub record Answer : Type 0 where
  pub number : ℕ
  pub value : Option Value

-- what stands at first: the start arrives at generation 0 of branch 0
abbrev pub opened_row : ℕ → Need → Row
opened_row revision (Step branch mark) =
    if is_start (mark_at branch mark) then holds (pattern blank) else nothing
opened_row revision (View id) = nothing

-- a desk with the opening document, of which nothing else is known or out
abbrev pub opened : ℕ → Core
opened revision =
    record { plan = opening revision; entries = []; rows = opened_row revision }

-- a desk with this standing for a need
abbrev pub put : Need → Row → Core → Core
put need row c =
    record c { rows = λ other. if is_need need other then row else c.rows other }

-- the world that stands in a row, if one is known
abbrev pub world_in : Row → Option World
world_in nothing = None
world_in (awaits number) = None
world_in (holds (pattern w)) = Some w
world_in (holds (text bytes)) = None

-- the world that is known to arrive at a mark
abbrev pub arrival_in : Core → Mark → Option World
arrival_in c m = world_in (c.rows (step_to m))

-- a bookmark is shown with its text, as pending, or as one that isn't there
pub data Shown : Type 0 where
  current : List ℕ → Shown
  pending : Shown
  no_such : Shown

-- what is shown of a bookmark, by what stands for it
abbrev pub shown_by : Row → Shown
shown_by nothing = pending
shown_by (awaits number) = pending
shown_by (holds (pattern w)) = pending
shown_by (holds (text bytes)) = current bytes

abbrev pub shown_for : Row → Option Bookmark → Shown
shown_for row None = no_such
shown_for row (Some b) = shown_by row

-- what a desk shows of the bookmark of an id
abbrev pub shown : Core → ℕ → Shown
shown c id = shown_for (c.rows (View id)) (bookmark_in c.plan.bookmarks id)

-- whether it is shown as pending
abbrev pub is_pending : Shown → Bool
is_pending (current bytes) = false
is_pending pending = true
is_pending no_such = false

-- how many bookmarks a desk shows as pending
abbrev pub pending_of : Core → ℕ
pending_of c = count_by (λ (b : Bookmark). is_pending (shown c b.id)) c.plan.bookmarks
