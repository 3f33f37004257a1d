use Rattle.desk_server.proofs.Names.{IsUnderWay, flat_map, row_line, shown_rows, ◌≡◌}
use Rattle.desk_server.proofs.listing.tell_bookmarks.Given as goal

abbrev pub invariant-loop-bookmark : goal.invariant-loop-bookmark
invariant-loop-bookmark g l = record {
  told : IsUnderWay l.fn.writer.contents l.writer.contents (flat_map row_line (shown_rows l.fn.desk))
      (flat_map row_line l.bookmark-iterator);
  worked : l.writer.failures ≡ l.fn.writer.failures;
}
