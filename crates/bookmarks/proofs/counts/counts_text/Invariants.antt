use Rattle.bookmarks.proofs.Names.{count_lines, ◌++◌, ◌+◌, ◌-◌, ◌≡◌}
use Rattle.bookmarks.proofs.counts.counts_text.Given as goal

abbrev pub invariant-loop-below : goal.invariant-loop-below
invariant-loop-below l = l.text.items ++ count_lines l.plane (l.below + 1) (255 - l.below) ≡ count_lines l.plane 1 255
