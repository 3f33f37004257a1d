-- Sets of states.
pub use Rattle.table_lines.specs.States.{has, is_bit_set, rising, same_set, word_of, words_of}
