use Rattle.std.proofs.Common.{◌≡◌, ◌++◌, map}
use Rattle.dependency_book.specs.ShownRows.{shown_rows}
use Rattle.desk_board.specs.Picture.{row_of}
use Rattle.desk_board.proofs.taking.snapshot.Given as goal

abbrev pub invariant-loop-bookmark : goal.invariant-loop-bookmark
invariant-loop-bookmark l = l.rows.items ++ map row_of l.bookmark-iterator ≡ map row_of (shown_rows l.fn.desk)
