-- What is remembered.
use Rattle.std.specs.Prelude.{◌≡◌, ◌≢◌, ℕ, suc, ◌+◌, ◌-◌, ◌^◌, ◌<◌, ◌≤◌, List, get_or, replicate, true, false, IfSome}
use Rattle.worlds.specs.Square.{Square}
use Rattle.square_table.specs.Squares.{Table, IsNumber, square_in, first_number}
use Rattle.square_table.specs.Made.{IsMade}
use Rattle.hash_life_laws.specs.Result.{result}
use Rattle.hash_life_laws.specs.Puts.{Puts}
use Rattle.hash_life_laws.specs.Makes.{Makes}
use Rattle.hash_engine.specs.Standing.{StandsFor}
use Rattle.hash_engine.specs.Blocks.{IsLaterOf, IsKnownBlock, AreKnownBlocks}
use Rattle.bit_blocks.specs.Answers.{AreRight}
use Rattle.hash_engine.specs.Small.{BeginsWithSmall}
use Rattle.hash_engine.specs.declared.block.Block.{Block}
use Rattle.hash_engine.specs.declared.memo.Memo.{Memo}

-- r is the number of the result, so many generations later, of the square of level k + 2 with the
-- number n
pub record IsResult (next : List ℕ → ℕ) (rows : List (List ℕ)) (k generations n r : ℕ)
    : Type 0 where
  pub numbered : IsNumber rows (suc (suc k)) n
  pub result : StandsFor rows (suc k) r (result next k generations (square_in rows (suc (suc k)) n))

-- results by the places of their squares, 0 where none is known; the level decides how many
-- generations later each is
pub record AreKnown (next : List ℕ → ℕ) (count : ℕ → ℕ) (rows : List (List ℕ)) (known : List ℕ)
    : Type 0 where
  pub right : (i : ℕ) → 0 < get_or known i 0 →
      (k : ℕ) × IsResult next rows k (count k) (first_number + i) (get_or known i 0)

-- each result that is remembered is right: those by the full counts are the table's notes; and the
-- table begins with the small squares, if that is noted, and what is kept of the rule's answers for
-- them is right
pub record IsRightMemo (next : List ℕ → ℕ) (t : Table) (memo : Memo) : Type 0 where
  pub full : AreKnown next (λ k. 2 ^ k) t.rows t.notes
  pub part : AreKnown next (λ k. get_or memo.counts k 0) t.rows memo.part.items
  pub blocks : AreKnownBlocks next t.rows memo.blocks.list.items
  pub small : memo.has_small ≡ true → BeginsWithSmall t.rows
  pub answers : IfSome memo.answers (AreRight next)

-- the square is one of 4 by 4 cells that was put to the rule: its result by the full count is known
pub record IsPut (rows : List (List ℕ)) (full : List ℕ) (s : Square) : Type 0 where
  pub place : ℕ
  pub numbered : IsNumber rows 2 (first_number + place)
  pub known : 0 < get_or full place 0
  pub square : square_in rows 2 (first_number + place) ≡ s

-- a way is one to a result, by k, the generations and the square; so are the ways to these
pub record AreWays (Way : ℕ → ℕ → Square → Type 0) (count : ℕ → ℕ) (rows : List (List ℕ))
    (known : List ℕ) : Type 0 where
  pub each : (i k : ℕ) → 0 < get_or known i 0 → IsNumber rows (suc (suc k)) (first_number + i) →
      Way k (count k) (square_in rows (suc (suc k)) (first_number + i))

-- so are those to all results that are remembered, and a search goes on so
pub record HasWays (Way : ℕ → ℕ → Square → Type 0) (t : Table) (memo : Memo) : Type 0 where
  pub whole : memo.is_lean ≡ false
  pub full : AreWays Way (λ k. 2 ^ k) t.rows t.notes
  pub part : AreWays Way (λ k. get_or memo.counts k 0) t.rows memo.part.items

-- what HashLife puts to the rule on the way was put to it, where the count isn't above the full one
abbrev pub WasPut : (List ℕ → ℕ) → Table → ℕ → ℕ → Square → Type 0
WasPut next t k generations s =
    generations ≤ 2 ^ k → Puts next k generations s (IsPut t.rows t.notes)

-- all that HashLife makes on the way is there
abbrev pub WasMade : (List ℕ → ℕ) → List (List ℕ) → ℕ → ℕ → Square → Type 0
WasMade next rows k generations s = Makes next k generations s (IsMade rows)

-- so it was on the ways to all results that are remembered
abbrev pub HasPut : (List ℕ → ℕ) → Table → Memo → Type 0
HasPut next t memo = HasWays (WasPut next t) t memo

abbrev pub HasMade : (List ℕ → ℕ) → Table → Memo → Type 0
HasMade next t memo = HasWays (WasMade next t.rows) t memo

-- no result by a full count is remembered
abbrev pub HasNoFull : Table → Type 0
HasNoFull t = t.notes ≡ replicate t.limit 0

-- each result that is remembered is right, and none is of the square of 4 by 4 cells with the
-- number n by one generation
pub record IsAnew (next : List ℕ → ℕ) (t : Table) (memo : Memo) (generations n : ℕ)
    : Type 0 where
  pub right : IsRightMemo next t memo
  pub anew : generations ≡ 1 → get_or t.notes (n - first_number) 0 ≡ 0

-- the one table has the squares of the other, and perhaps other notes
pub record KeepsRows (old new : Table) : Type 0 where
  pub limit : new.limit ≡ old.limit
  pub rows : new.rows ≡ old.rows

-- the one list has this result at the place i, and is the other elsewhere
pub record IsNoted (i r : ℕ) (old new : List ℕ) : Type 0 where
  pub here : get_or new i 0 ≡ r
  pub others : (j : ℕ) → j ≢ i → get_or new j 0 ≡ get_or old j 0

-- of a square of level k + 2 this result is remembered, among those by the full counts where its
-- own is one; of the others no more than its own has changed, and only where it's by the other
-- count
pub record IsRemembered (k generations n r : ℕ) (t : Table) (old : Memo) (u : Table) (new : Memo)
    : Type 0 where
  pub full : generations ≡ 2 ^ k → IsNoted (n - first_number) r t.notes u.notes
  pub other : generations ≢ 2 ^ k → u.notes ≡ t.notes
  pub counts : new.counts ≡ old.counts
  pub part : generations ≡ get_or old.counts k 0 → (j : ℕ) → j ≢ n - first_number →
      get_or new.part.items j 0 ≡ get_or old.part.items j 0
  pub rest : generations ≢ get_or old.counts k 0 → new.part.items ≡ old.part.items
  pub blocks : new.blocks ≡ old.blocks
  pub lean : new.is_lean ≡ old.is_lean

-- r is the result of the square with the number n, if what is remembered is right
abbrev pub RecallsResult : Table → Memo → ℕ → ℕ → ℕ → ℕ → Type 0
RecallsResult t memo k generations n = λ r. (next : List ℕ → ℕ) →
    IsRightMemo next t memo → IsNumber t.rows (suc (suc k)) n →
    IsResult next t.rows k generations n r

-- what is put to the rule on the way to the result was put to it, if that holds of all that is
-- remembered
abbrev pub RecallsPut : Table → Memo → ℕ → ℕ → ℕ → Type 0
RecallsPut t memo k generations n = (next : List ℕ → ℕ) →
    HasPut next t memo → IsNumber t.rows (suc (suc k)) n → generations ≤ 2 ^ k →
    Puts next k generations (square_in t.rows (suc (suc k)) n) (IsPut t.rows t.notes)

-- what is made on the way to the result is there, if that holds of all that is remembered
abbrev pub RecallsMade : Table → Memo → ℕ → ℕ → ℕ → Type 0
RecallsMade t memo k generations n = (next : List ℕ → ℕ) →
    HasMade next t memo → IsNumber t.rows (suc (suc k)) n →
    Makes next k generations (square_in t.rows (suc (suc k)) n) (IsMade t.rows)

-- r is the result of the block one generation later, if what is remembered is right
abbrev pub RecallsBlock : Memo → List ℕ → ℕ → Type 0
RecallsBlock memo quadrants = λ r. (next : List ℕ → ℕ) (t : Table) →
    IsRightMemo next t memo → IsLaterOf next t.rows quadrants r

-- what is remembered stays right with the result of this block, if that is one
abbrev pub StaysRightWith : Block → Memo → Memo → Type 0
StaysRightWith b old new = (next : List ℕ → ℕ) (t : Table) →
    IsRightMemo next t old → IsKnownBlock next t.rows b → IsRightMemo next t new

-- what is remembered stays right with this result, if that is one
abbrev pub StaysRight : ℕ → ℕ → ℕ → ℕ → Table → Memo → Table → Memo → Type 0
StaysRight k generations n r t old u new = (next : List ℕ → ℕ) →
    IsRightMemo next t old → IsResult next t.rows k generations n r → IsRightMemo next u new

-- whatever it was right for, it is right for still
abbrev pub StaysRightFor : Memo → Memo → Type 0
StaysRightFor old new = (next : List ℕ → ℕ) (t : Table) →
    IsRightMemo next t old → IsRightMemo next t new

-- if what is put to the rule on the ways to all that is remembered was put to it, it still was
abbrev pub StaysPutFor : Memo → Memo → Type 0
StaysPutFor old new = (next : List ℕ → ℕ) (t : Table) →
    HasPut next t old → HasPut next t new

-- if what is made on the ways to all that is remembered was there, it still is
abbrev pub StaysMadeFor : Memo → Memo → Type 0
StaysMadeFor old new = (next : List ℕ → ℕ) (t : Table) →
    HasMade next t old → HasMade next t new

-- what was right under the rule is right still
abbrev pub StaysRightUnder : (List ℕ → ℕ) → Memo → Memo → Type 0
StaysRightUnder next old new = (t : Table) → IsRightMemo next t old → IsRightMemo next t new

-- what was right for one table is right for any other in which nothing is noted
abbrev pub ClearsFor : Memo → Memo → Type 0
ClearsFor old new = (next : List ℕ → ℕ) (t u : Table) →
    IsRightMemo next t old → HasNoFull u → IsRightMemo next u new

-- whatever it was right for, it is right for still where the table begins with the small squares
abbrev pub TurnsSmall : Memo → Memo → Type 0
TurnsSmall old new = (next : List ℕ → ℕ) (t : Table) →
    IsRightMemo next t old → BeginsWithSmall t.rows → IsRightMemo next t new
