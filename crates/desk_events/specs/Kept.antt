-- What an edit keeps of what is known.
use Rattle.std.specs.Prelude.{Bool, true, false, not, ◌&&◌, nat_lt, List, Option, None, Some, if◌then◌else◌, ◌==◌}
use Rattle.schedule.specs.declared.document.Bookmark.{Bookmark}
use Rattle.schedule.specs.declared.branch.Branch.{Branch}
use Rattle.schedule.specs.Evolution.{is_felt}
use Rattle.schedule.specs.Plan.{Plan}
use Rattle.schedule.specs.Asked.{Asked, MoveBookmark, RemoveBookmark}
use Rattle.desk_events.specs.declared.mark.Mark.{Mark}
use Rattle.desk_events.specs.declared.need.Need.{Need}
use Rattle.desk_events.specs.declared.need.Need.TheVariants.{Step, View}
use Rattle.desk_events.specs.Marks.{bookmark_mark, is_mark, mark_at}
use Rattle.desk_events.specs.Wanted.{bookmark_in}

-- whether an edit that is felt from a mark on keeps what arrives at another, where these are the
-- branches
abbrev pub keeps_arrival : List Branch → Option Mark → Mark → Bool
keeps_arrival branches None m = true
keeps_arrival branches (Some from) m =
    not (is_felt branches m.branch m.branch m.generation from.branch from.generation)

-- whether it leaves what leaves a mark
abbrev pub leaves_after : List Branch → Option Mark → Mark → Bool
leaves_after branches None m = true
leaves_after branches (Some from) m =
    if from.branch == m.branch then nat_lt m.generation from.generation
    else keeps_arrival branches (Some from) m

-- whether an edit removes a bookmark or moves it to another generation
abbrev pub takes : Asked → Bookmark → Bool
takes (MoveBookmark id generation) b = b.id == id && not (b.generation == generation)
takes (RemoveBookmark id) b = b.id == id
takes _ b = false

-- whether the text of a bookmark is kept after an edit that is felt from a mark on
abbrev pub keeps_text : List Branch → Option Mark → Asked → Bookmark → Bool
keeps_text branches felt asked b =
    leaves_after branches felt (bookmark_mark b) && not (takes asked b)

-- whether a mark of a document is one of q after an edit too, which keeps what arrives there
abbrev pub stays_mark : Option Mark → Plan → Plan → Mark → Bool
stays_mark felt p q m = is_mark p m && (is_mark q m && keeps_arrival q.branches felt m)

-- whether the text of a bookmark is kept, if there is one
abbrev pub keeps_bookmark : List Branch → Option Mark → Asked → Option Bookmark → Bool
keeps_bookmark branches felt asked None = false
keeps_bookmark branches felt asked (Some b) = keeps_text branches felt asked b

-- whether what stands for a need is kept after an edit of a document that gives q
abbrev pub keeps : Plan → Asked → Option Mark → Plan → Need → Bool
keeps p asked felt q (Step branch mark) = stays_mark felt p q (mark_at branch mark)
keeps p asked felt q (View id) =
    keeps_bookmark q.branches felt asked (bookmark_in p.bookmarks id)
