use Rattle.desk_script.proofs.Names.{add_bookmark, ap, arith, bookmark_id, codes, ids_between, length, refl, skip_bookmark, ◌++◌, ◌<◌, ◌∙◌}
use Rattle.desk_script.proofs.Pushed.{added-more, skipped, bookmark-skipped}
use Rattle.desk_script.proofs.scripting.push_bookmarks.Goals as goal

pub loop-bookmark-preserved : goal.loop-bookmark-preserved
loop-bookmark-preserved c =
    let below : c.loop-bookmark.bookmark-index < length c.args.bookmarks.now = omega arith in
    added-more bookmark_id skip_bookmark add_bookmark _ c.loop-bookmark.script.items _ _ c.loop-bookmark.last _ _ _ _ below refl
    (c.in_ok-push_skipped.ensures ∙ ap (λ v. c.loop-bookmark.script.items ++ v)
    (skipped skip_bookmark (codes "on 0 mark 0 counts\n") (codes "unmark ") (ids_between c.loop-bookmark.last _) bookmark-skipped))
    c.in_ok-push_bookmark.ensures c.loop-bookmark.invariant
