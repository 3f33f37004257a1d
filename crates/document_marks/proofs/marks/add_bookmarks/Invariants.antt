use Rattle.document_marks.proofs.Names.{bookmark_mark, map, take, vec_capacity, vec_len, ◌++◌, ◌+◌, ◌≡◌}
use Rattle.document_marks.proofs.marks.add_bookmarks.Given as goal

abbrev pub invariant-loop-bookmark : goal.invariant-loop-bookmark
invariant-loop-bookmark l = record {
  items : l.marks.items ≡ l.fn.marks.items ++ map bookmark_mark (take l.bookmark-index l.bookmarks);
  len : vec_len l.marks ≡ vec_len l.fn.marks + l.bookmark-index;
  capacity : vec_capacity l.marks ≡ vec_capacity l.fn.marks;
}
