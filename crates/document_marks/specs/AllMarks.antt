-- The marks of a document but the start as a list.
use Rattle.std.specs.Prelude.{◌≡◌, ℕ, ◌+◌, ◌*◌, ◌^◌, ◌≤◌, ◌-◌, min, not, length, List, filter, false}
use Rattle.std.specs.List.{AllByRecursion, list_any}
use Rattle.schedule.specs.Ids.{IdsRise}
use Rattle.schedule.specs.Plan.{Plan}
use Rattle.schedule.specs.Repeats.{repeat_marks}
use Rattle.desk_events.specs.declared.mark.Mark.{Mark}
use Rattle.desk_events.specs.Marks.{is_mark, is_same, is_start}

-- marks stand by their branches, and in a branch by their generations, which are below 2^64
abbrev pub mark_rank : Mark → ℕ
mark_rank m = m.branch * 2 ^ 64 + min m.generation (2 ^ 64 - 1)

-- marks without the start
abbrev pub but_start : List Mark → List Mark
but_start = filter (λ m. not (is_start m))

-- marks are those of a document but the start, each once, and rise; so there are at most as many as
-- interventions, bookmarks, ends of branches and generations at which something repeats
pub record AreMarksOf (p : Plan) (marks : List Mark) : Type 0 where
  pub rise : IdsRise mark_rank marks
  pub near : AllByRecursion (λ (m : Mark). m.generation ≤ 2 ^ 60) marks
  pub above : AllByRecursion (λ (m : Mark). is_start m ≡ false) marks
  pub are : (m : Mark) → is_start m ≡ false → list_any (λ n. is_same n m) marks ≡ is_mark p m
  pub few :
      length marks
      ≤ length p.interventions + length p.bookmarks + 2 * length p.branches + repeat_marks p
