use Rattle.desk_server.proofs.Names.{Appends, AppendsFront, IsUnderWay, ap, bookmark_line, flat_map, row_line, subst, sym, wrote_err, ◌∙◌}
use Rattle.desk_server.proofs.Lines.{row-line}
use Rattle.desk_server.proofs.Told.{broken, more}
use Rattle.desk_server.proofs.listing.tell_bookmarks.Goals as goal

pub loop-bookmark-preserved : goal.loop-bookmark-preserved
loop-bookmark-preserved g c =
    let line = ap (bookmark_line c.in-Some.bookmark) c.is_some.ensures
    ∙ sym (row-line c.in-Some.bookmark (λ t. t.now) c.in-Some.text) in
    record {
      told = more row_line _ _ _ _ _ _
          (subst (IsUnderWay _ _ _) (ap (flat_map row_line) c.in-Some.ensures.steps) c.loop-bookmark.invariant.told)
          (subst (Appends _ _) line c.in_ok-tell_bookmark.ensures.bytes);
      worked = c.in_ok-tell_bookmark.ensures.worked ∙ c.loop-bookmark.invariant.worked;
    }

pub returns-in_err-tell_bookmark-clause-bytes : goal.returns-in_err-tell_bookmark-clause-bytes
returns-in_err-tell_bookmark-clause-bytes g c =
    let line = ap (bookmark_line c.in-Some.bookmark) c.is_some.ensures
    ∙ sym (row-line c.in-Some.bookmark (λ t. t.now) c.in-Some.text) in
    wrote_err _ _ c.from_residual.result _ c.from_residual.ensures.0
    (broken row_line _ _ _ _ _ _
    (subst (IsUnderWay _ _ _) (ap (flat_map row_line) c.in-Some.ensures.steps) c.loop-bookmark.invariant.told)
    (subst (AppendsFront _ _) line c.in_err-tell_bookmark.ensures.bytes))
