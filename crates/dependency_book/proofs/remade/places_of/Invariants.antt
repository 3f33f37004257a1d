use Rattle.dependency_book.proofs.Names.{places_of, take, vec_capacity, vec_len, ◌≡◌}
use Rattle.dependency_book.proofs.remade.places_of.Given as goal

abbrev pub invariant-loop-bookmark : goal.invariant-loop-bookmark
invariant-loop-bookmark l = record {
  items : l.places.items ≡ places_of l.arrivals (take l.bookmark-index l.bookmarks);
  len : vec_len l.places ≡ l.bookmark-index;
  capacity : vec_capacity l.places ≡ vec_capacity l.fn.room;
}
