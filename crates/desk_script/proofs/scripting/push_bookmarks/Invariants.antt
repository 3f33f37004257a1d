use Rattle.desk_script.proofs.Names.{add_bookmark, bookmark_id, drop, skip_bookmark}
use Rattle.desk_script.proofs.Pushed.{IsAdding}
use Rattle.desk_script.proofs.scripting.push_bookmarks.Given as goal

abbrev pub invariant-loop-bookmark : goal.invariant-loop-bookmark
invariant-loop-bookmark l = IsAdding bookmark_id skip_bookmark add_bookmark l.fn.script.items l.script.items l.last
    (drop l.bookmark-index l.bookmarks) l.bookmarks
