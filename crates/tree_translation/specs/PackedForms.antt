-- The forms in which numbers are kept, and what is hashed of them.
use Rattle.std.specs.Prelude.{◌≡◌, ℕ, true, false, List, ◌++◌, if◌then◌else◌}
use Rattle.std.specs.Hash as fed
use Rattle.std.specs.Str.{bytes_eq}
use Rattle.std.proofs.Common.{ap}
use lib.Pointwise.{bytes_decides}
use Rattle.tree_translation.specs.declared.packed.Form.{Form}
use Rattle.tree_translation.specs.declared.packed.Form.TheVariants.{Each, Runs}
use Rattle.tree_translation.specs.declared.packed.Run.{Run}
use Rattle.tree_translation.specs.Packed.{keeps_runs, runs_from, spread_from}

abbrev pub numbers_in : Form → List ℕ
numbers_in (Each numbers) = numbers.items
numbers_in (Runs runs) = spread_from 0 runs.items

-- the runs are those of the numbers, and numbers are kept as runs where these are few
abbrev pub IsPacked : Form → Type 0
IsPacked (Each numbers) = keeps_runs numbers.items ≡ false
IsPacked (Runs runs) = (runs.items ≡ runs_from 0 (spread_from 0 runs.items))
    × (keeps_runs (spread_from 0 runs.items) ≡ true)

-- what is hashed of numbers: their runs, or each of them
abbrev pub hash_input_of : List ℕ → List (List ℕ)
hash_input_of numbers =
    if keeps_runs numbers
    then fed.slice (λ (run : Run). fed.u32 run.number ++ fed.u16 run.until) (runs_from 0 numbers)
    else fed.slice fed.u32 numbers

-- of equal numbers the same is hashed
pub same_input : (a b : List ℕ) → bytes_eq a b ≡ true → hash_input_of a ≡ hash_input_of b
same_input a b h = ap hash_input_of ((bytes_decides a b).0 h)
