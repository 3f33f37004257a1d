-- What is to be computed for a need.
use Rattle.std.specs.Prelude.{◌≡◌, ℕ, ◌+◌, true, Option, Some}
use Rattle.worlds.specs.World.{World}
use Rattle.rule_tree.specs.Rule.{name_of, states_of}
use Rattle.schedule.specs.declared.document.Bookmark.{Bookmark}
use Rattle.schedule.specs.Plan.{Plan}
use Rattle.schedule.specs.Scratch.{cells_at}
use Rattle.desk_events.specs.declared.mark.Mark.{Mark}
use Rattle.desk_events.specs.declared.need.Need.{Need}
use Rattle.desk_events.specs.declared.need.Need.TheVariants.{Step, View}
use Rattle.desk_events.specs.Entry.{Entry, Stepping, Viewing, steps, views}
use Rattle.desk_events.specs.Marks.{ComesBefore, bookmark_mark, is_mark, mark_at}
use Rattle.desk_events.specs.Wanted.{bookmark_in}

-- to a mark of the document from what arrives at the mark before, where that is known, on which
-- the cells of that mark are laid, over the gap
pub record StepsFrom (p : Plan) (arrives : Mark → Option World)
    (mark : Mark) (s : Stepping) : Type 0 where
  pub noted : is_mark p mark ≡ true
  pub before : Mark
  pub comes : ComesBefore p before mark
  pub rule : s.rule ≡ p.rule
  pub from : arrives before ≡ Some s.from
  pub cells : s.cells ≡ cells_at p.interventions before.branch before.generation
  pub gap : before.generation + s.gens ≡ mark.generation

-- the view of a bookmark, of what arrives at its mark, where that is known, on which the cells of
-- that mark are laid
pub record ViewsFrom (p : Plan) (arrives : Mark → Option World)
    (id : ℕ) (v : Viewing) : Type 0 where
  pub bookmark : Bookmark
  pub there : bookmark_in p.bookmarks id ≡ Some bookmark
  pub view : v.view ≡ bookmark.view
  pub from : arrives (bookmark_mark bookmark) ≡ Some v.from
  pub cells : v.cells ≡ cells_at p.interventions bookmark.branch bookmark.generation
  pub name : v.name ≡ name_of p.rule
  pub states : v.states ≡ states_of p.rule
  pub generation : v.generation ≡ bookmark.generation

-- the entry is what is to be computed for a need, where this is known to arrive
abbrev pub IsEntryFrom : Plan → (Mark → Option World) → Need → Entry → Type 0
IsEntryFrom p arrives (Step branch mark) (steps s) = StepsFrom p arrives (mark_at branch mark) s
IsEntryFrom p arrives (Step branch mark) (views v) = ⊥
IsEntryFrom p arrives (View id) (steps s) = ⊥
IsEntryFrom p arrives (View id) (views v) = ViewsFrom p arrives id v
