use Rattle.bookmarks.proofs.Names.{window_text, ◌≡◌}
use Rattle.bookmarks.proofs.window.window_text.Given as goal

abbrev pub invariant-loop-row : goal.invariant-loop-row
invariant-loop-row l = l.text.items ≡ window_text l.plane l.left l.top l.width l.row
