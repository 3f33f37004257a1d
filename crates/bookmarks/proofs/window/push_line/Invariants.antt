use Rattle.bookmarks.proofs.Names.{decimal, join_with_byte, map, take, ◌++◌, ◌≡◌}
use Rattle.bookmarks.proofs.window.push_line.Given as goal

abbrev pub invariant-loop-column : goal.invariant-loop-column
invariant-loop-column l = l.text.items ≡ l.fn.text.items ++ join_with_byte 32 (map decimal (take l.column l.states))
