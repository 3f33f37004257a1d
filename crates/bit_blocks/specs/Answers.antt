-- What is kept of a rule's answers for blocks of 4 by 4 cells.
use Rattle.std.specs.Prelude.{◌≡◌, ◌≢◌, ℕ, ◌+◌, ◌*◌, ◌<◌, ◌≤◌, ◌==◌, List, length, get_or}
use Rattle.std.specs.List.{count_by}
use Rattle.worlds.specs.Square.{Square}
use Rattle.hash_life_laws.specs.Result.{later}
use Rattle.hash_life_laws.specs.Puts.{IsBelow}
use Rattle.bit_blocks.specs.Numbers.{two_of, block_of}
use Rattle.bit_blocks.specs.declared.answers.TheConstants.{UNKNOWN}

-- what is kept for a block
abbrev pub answer_at : List ℕ → ℕ → ℕ
answer_at known block = get_or known block UNKNOWN

-- the number is that of the square; or the square has a state above 1; or it isn't known
pub record IsAnswer (answer : ℕ) (s : Square) : Type 0 where
  pub two : answer < 16 → two_of answer ≡ s
  pub beyond : 16 ≤ answer → answer ≢ UNKNOWN → IsBelow 2 s → ⊥

-- what is kept for each block is what the rule makes of its middle one generation later
pub record AreRight (next : List ℕ → ℕ) (known : List ℕ) : Type 0 where
  pub each : (block : ℕ) → IsAnswer (answer_at known block) (later next (block_of block))

-- how many blocks weren't put to the rule yet
unfoldable pub unknown_count : List ℕ → ℕ
unknown_count known = count_by (λ answer. answer == UNKNOWN) known

-- so many blocks, none of which was put to the rule
pub record IsUnknown (n : ℕ) (known : List ℕ) : Type 0 where
  pub count : length known ≡ n
  pub each : (block : ℕ) → answer_at known block ≡ UNKNOWN
  pub unknown : unknown_count known ≡ n

-- the answer is the number of the block's middle one generation later
pub record IsLater (next : List ℕ → ℕ) (block answer : ℕ) : Type 0 where
  pub small : answer < 16
  pub two : two_of answer ≡ later next (block_of block)

-- a rule means the same as before
pub record IsSameRule (old_meaning new_meaning : List ℕ → ℕ) (old_count new_count : ℕ)
    : Type 0 where
  pub meaning : new_meaning ≡ old_meaning
  pub states : new_count ≡ old_count

-- a rule at one moment and at a later one means the same
abbrev pub KeepsRule : {R : Type 0} → (R → List ℕ → ℕ) → (R → ℕ) → R → R → Type 0
KeepsRule meaning state_count old new =
    IsSameRule (meaning old) (meaning new) (state_count old) (state_count new)

-- the rule means the same, what is kept is right, and each block that became known took four asks
pub record Keeps {R : Type 0} (meaning : R → List ℕ → ℕ) (state_count asked : R → ℕ) (old new : R)
    (old_known known : List ℕ) : Type 0 where
  pub rule : KeepsRule meaning state_count old new
  pub right : AreRight (meaning old) known
  pub asks : asked new + 4 * unknown_count known ≡ asked old + 4 * unknown_count old_known
