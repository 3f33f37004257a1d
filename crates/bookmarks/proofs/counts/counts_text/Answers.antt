use Rattle.bookmarks.proofs.Names.{ap, arith, or_empty, refl, ◌+◌, ◌∙◌}
use Rattle.bookmarks.proofs.Lines.{lines-more, lines_all}
use Rattle.bookmarks.proofs.counts.counts_text.Goals as goal

pub loop-below-preserved : goal.loop-below-preserved
loop-below-preserved c =
    lines-more c.args.plane.now c.loop-below.text.items c.push_count.new.text.items c.loop-below.below (c.loop-below.below + 1) _ (omega arith) refl
    (c.in_ok-counts.ensures (c.loop-below.below + 1) (omega arith)) c.in_ok-push_count.ensures c.loop-below.invariant

pub returns : goal.returns
returns c = c.in_ok-say_empty.ensures ∙ ap or_empty (lines_all c.args.plane.now _ c.loop-below.below (omega arith) c.loop-below.invariant)
