-- What starting over gives for a need.
use Rattle.std.specs.Prelude.{ℕ, List, [], ◌∷◌, Option, None, Some, if◌then◌else◌, ◌==◌}
use Rattle.schedule.specs.declared.document.Bookmark.{Bookmark}
use Rattle.schedule.specs.Plan.{Plan}
use Rattle.schedule.specs.Scratch.{arrival, scratch}
use Rattle.bookmarks.specs.Value.{Value, pattern, text}
use Rattle.desk_events.specs.declared.need.Need.{Need}
use Rattle.desk_events.specs.declared.need.Need.TheVariants.{Step, View}

-- the first bookmark of this id
abbrev pub bookmark_in : List Bookmark → ℕ → Option Bookmark
bookmark_in [] id = None
bookmark_in (b ∷ bs) id = if b.id == id then Some b else bookmark_in bs id

-- the text of a bookmark
abbrev pub text_wanted : Plan → Option Bookmark → Option Value
text_wanted p None = None
text_wanted p (Some b) = Some (text (scratch p b))

-- the pattern that arrives, or the text
abbrev pub wanted : Plan → Need → Option Value
wanted p (Step branch mark) = Some (pattern (arrival p branch mark))
wanted p (View id) = text_wanted p (bookmark_in p.bookmarks id)
