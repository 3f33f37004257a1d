-- What is hashed of a set of states.
use Rattle.std.specs.Prelude.{◌≡◌, ℕ, List, ◌++◌, true}
use Rattle.std.specs.Hash as fed
use Rattle.std.proofs.Common.{ap}
use lib.Pointwise.{bytes_decides}
use Rattle.table_lines.specs.States.{same_set, word_of}

-- its four words
abbrev pub hash_input_of : List ℕ → List (List ℕ)
hash_input_of set =
    fed.u64 (word_of set 0) ++ fed.u64 (word_of set 1) ++ fed.u64 (word_of set 2)
    ++ fed.u64 (word_of set 3)

-- equal sets have equal words
pub same_input : (a b : List ℕ) → same_set a b ≡ true → hash_input_of a ≡ hash_input_of b
same_input a b h = ap hash_input_of ((bytes_decides a b).0 h)
