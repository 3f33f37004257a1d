use Rattle.table_symmetry.proofs.Names.{HaveBitsOf, TellsRows, [], word_of_each, ◌%◌, ◌/◌, ◌≡◌, ◌≢◌}
use Rattle.table_symmetry.proofs.Columns.{AreRight}
use Rattle.table_symmetry.proofs.lookup.columns_of.Given as goal

-- the columns of the first states, and the words for the next where it isn't the first of a quarter
abbrev pub invariant-loop-state : goal.invariant-loop-state
invariant-loop-state l = record {
  columns : AreRight (TellsRows l.rows l.place) [] l.columns.items l.state;
  words : l.state % 64 ≢ 0 → l.words.items ≡ word_of_each l.place (l.state / 64) l.rows;
  unions : l.state % 64 ≢ 0 → HaveBitsOf l.unions.items l.words.items;
}
