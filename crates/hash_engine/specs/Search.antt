-- What a search keeps, finds and asks.
use Rattle.std.specs.Prelude.{◌≡◌, ℕ, suc, ◌+◌, ◌*◌, ◌^◌, ◌<◌, ◌≤◌, List, length, get_or, All, Contains}
use Rattle.worlds.specs.Square.{Square}
use Rattle.square_table.specs.Squares.{Table, square_in, Grows}
use Rattle.square_table.specs.Made.{IsMade, AreAmong}
use Rattle.hash_life_laws.specs.Result.{result}
use Rattle.hash_life_laws.specs.Puts.{Puts}
use Rattle.hash_life_laws.specs.Makes.{Makes}
use Rattle.hash_engine.specs.Standing.{StandsFor, IsReady}
use Rattle.hash_engine.specs.Memo.{IsRightMemo, IsAnew, IsPut, HasPut, HasMade}
use Rattle.hash_engine.specs.Blocks.{later_of, IsReadyBlock}
use Rattle.hash_engine.specs.declared.block.Block.{Block}
use Rattle.hash_engine.specs.Asked.{places_put, PutsOnly}
use Rattle.hash_engine.specs.Found.{IsSameRule}
use Rattle.hash_engine.specs.declared.memo.Memo.{Memo}

-- the result of the square of level k + 2 with this number can be sought
pub record CanSeek (next : List ℕ → ℕ) (state_count : ℕ) (t : Table) (memo : Memo)
    (k generations number : ℕ) : Type 0 where
  pub low : k ≤ 61
  pub ready : IsReady next state_count t.rows k generations number
  pub right : IsRightMemo next t memo

-- those of the squares with these numbers can
pub record CanSeekAll (next : List ℕ → ℕ) (state_count : ℕ) (t : Table) (memo : Memo)
    (k generations : ℕ) (numbers : List ℕ) : Type 0 where
  pub low : k ≤ 61
  pub ready : All (IsReady next state_count t.rows k generations) numbers
  pub right : IsRightMemo next t memo

-- that of a square of more than 4 by 4 cells can, one generation later or more
pub record CanCompute (next : List ℕ → ℕ) (state_count : ℕ) (t : Table) (memo : Memo)
    (k generations number : ℕ) : Type 0 where
  pub some : 0 < generations
  pub above : 0 < k
  pub seek : CanSeek next state_count t memo k generations number

-- the square of 4 by 4 cells with this number can be put to the rule, and wasn't yet
pub record CanPut (next : List ℕ → ℕ) (state_count : ℕ) (t : Table) (memo : Memo)
    (generations number : ℕ) : Type 0 where
  pub some : 0 < generations
  pub ready : IsReady next state_count t.rows 0 generations number
  pub anew : IsAnew next t memo generations number

-- the square of level k + 2 with the number n, whose result is sought
abbrev pub sought : Table → ℕ → ℕ → Square
sought t k n = square_in t.rows (suc (suc k)) n

-- P holds of each square that is made on the ways to the results of these
abbrev pub MakesAll : (List ℕ → ℕ) → ℕ → ℕ → List ℕ → Table → (Square → Type 0) → Type 0
MakesAll next k generations numbers t P =
    All (λ n. Makes next k generations (sought t k n) P) numbers

-- P holds of each square that is put to the rule on them
abbrev pub PutsAll : (List ℕ → ℕ) → ℕ → ℕ → List ℕ → Table → (Square → Type 0) → Type 0
PutsAll next k generations numbers t P =
    All (λ n. Puts next k generations (sought t k n) P) numbers

-- however a search ends: the rule means the same, the table has rows of squares on the way more, or
-- none, and what is remembered is right
pub record KeepsOnWay (next new_next : List ℕ → ℕ) (count new_count : ℕ)
    (Way : (Square → Type 0) → Type 0) (t u : Table) (memo : Memo) : Type 0 where
  pub rule : IsSameRule next new_next count new_count
  pub grows : Grows t u
  pub right : IsRightMemo next u memo
  pub adds : (all : List Square) → Way (Contains all) → AreAmong all t.rows → AreAmong all u.rows

-- where it finds what it sought: the rule was asked four times for each square that was put to it
-- since, which is on the way, and what had been put to it is put still
pub record Asks (next : List ℕ → ℕ) (Way : (Square → Type 0) → Type 0) (t : Table) (asks : ℕ)
    (u : Table) (memo : Memo) (new_asks : ℕ) : Type 0 where
  pub four : new_asks + 4 * length (places_put t) ≡ asks + 4 * length (places_put u)
  pub has : HasPut next u memo
  pub kept : (s : Square) → IsPut t.rows t.notes s → IsPut u.rows u.notes s
  pub among : (all : List Square) → Way (Contains all) → PutsOnly all t → PutsOnly all u

-- all that is put to the rule is remembered: no result is by more than a full count, and that of
-- what was remembered was put
pub record IsCounted (next : List ℕ → ℕ) (k generations : ℕ) (t : Table) (memo : Memo)
    : Type 0 where
  pub few : generations ≤ 2 ^ k
  pub has : HasPut next t memo

-- n is the number of the result of the square s of level k + 2, and what is put to the rule on the
-- way to it was put, where that is counted
pub record IsFound (next : List ℕ → ℕ) (Counted : Type 0) (k generations : ℕ) (s : Square)
    (u : Table) (n : ℕ) : Type 0 where
  pub square : StandsFor u.rows (suc k) n (result next k generations s)
  pub put : Counted → Puts next k generations s (IsPut u.rows u.notes)

-- so each of the first many of these is of one of those
abbrev pub FirstAreFound : (List ℕ → ℕ) → Type 0 → ℕ → ℕ → ℕ → List ℕ → Table → Table →
    List ℕ → Type 0
FirstAreFound next Counted k generations many numbers t u found = (j d e : ℕ) → j < many →
    IsFound next Counted k generations (sought t k (get_or numbers j d)) u (get_or found j e)

-- what is kept in the search for one result, and in that for several
abbrev pub KeepsFor : {R : Type 0} → (R → List ℕ → ℕ) → (R → ℕ) → R → R → ℕ → ℕ → ℕ →
    Table → Table → Memo → Type 0
KeepsFor meaning states old new k generations number t u memo =
    KeepsOnWay (meaning old) (meaning new) (states old) (states new)
    (Makes (meaning old) k generations (sought t k number)) t u memo

abbrev pub KeepsForAll : {R : Type 0} → (R → List ℕ → ℕ) → (R → ℕ) → R → R → ℕ → ℕ → List ℕ →
    Table → Table → Memo → Type 0
KeepsForAll meaning states old new k generations numbers t u memo =
    KeepsOnWay (meaning old) (meaning new) (states old) (states new)
    (MakesAll (meaning old) k generations numbers t) t u memo

-- what is found in it
abbrev pub FindsFor : (List ℕ → ℕ) → ℕ → ℕ → ℕ → Table → Memo → Table → ℕ → Type 0
FindsFor next k generations number t memo u = λ n.
    IsFound next (IsCounted next k generations t memo) k generations (sought t k number) u n

pub record FindsForAll (next : List ℕ → ℕ) (k generations : ℕ) (numbers : List ℕ) (t : Table)
    (memo : Memo) (u : Table) (found : List ℕ) : Type 0 where
  pub count : length found ≡ length numbers
  pub each : FirstAreFound next (IsCounted next k generations t memo) k generations
      (length numbers) numbers t u found

-- what is asked in it
abbrev pub AsksFor : {R : Type 0} → (R → List ℕ → ℕ) → (R → ℕ) → ℕ → ℕ → ℕ →
    R → Table → Memo → R → Table → Memo → Type 0
AsksFor meaning asks k generations number old t memo new u new_memo =
    IsCounted (meaning old) k generations t memo →
    Asks (meaning old) (Puts (meaning old) k generations (sought t k number))
    t (asks old) u new_memo (asks new)

abbrev pub AsksForAll : {R : Type 0} → (R → List ℕ → ℕ) → (R → ℕ) → ℕ → ℕ → List ℕ →
    R → Table → Memo → R → Table → Memo → Type 0
AsksForAll meaning asks k generations numbers old t memo new u new_memo =
    IsCounted (meaning old) k generations t memo →
    Asks (meaning old) (PutsAll (meaning old) k generations numbers t)
    t (asks old) u new_memo (asks new)

-- what is made in it: where all was there that is made on the ways to what was remembered, it is
-- still, and so is what is made on the way to this
abbrev pub MakesFor : (List ℕ → ℕ) → ℕ → ℕ → ℕ → Table → Memo → Table → Memo → Type 0
MakesFor next k generations number t old u new = HasMade next t old →
    HasMade next u new × Makes next k generations (sought t k number) (IsMade u.rows)

abbrev pub MakesForAll : (List ℕ → ℕ) → ℕ → ℕ → List ℕ → Table → Memo → Table → Memo → Type 0
MakesForAll next k generations numbers t old u new = HasMade next t old →
    HasMade next u new × MakesAll next k generations numbers t (IsMade u.rows)

-- the result of the block with these quadrants can be sought
pub record CanSeekBlock (next : List ℕ → ℕ) (state_count : ℕ) (t : Table) (memo : Memo)
    (generations : ℕ) (quadrants : List ℕ) : Type 0 where
  pub ready : IsReadyBlock next state_count t.rows generations quadrants
  pub right : IsRightMemo next t memo

-- those of these blocks can
pub record CanSeekBlocks (next : List ℕ → ℕ) (state_count : ℕ) (t : Table) (memo : Memo)
    (generations : ℕ) (blocks : List Block) : Type 0 where
  pub ready : All (λ b. IsReadyBlock next state_count t.rows generations b.quadrants) blocks
  pub right : IsRightMemo next t memo

-- what is kept in the search for the result of a block, which alone is made, and in that for several
abbrev pub KeepsForBlock : {R : Type 0} → (R → List ℕ → ℕ) → (R → ℕ) → R → R → ℕ → List ℕ →
    Table → Table → Memo → Type 0
KeepsForBlock meaning states old new generations quadrants t u memo =
    KeepsOnWay (meaning old) (meaning new) (states old) (states new)
    (λ P. P (later_of (meaning old) generations t quadrants)) t u memo

abbrev pub KeepsForBlocks : {R : Type 0} → (R → List ℕ → ℕ) → (R → ℕ) → R → R → ℕ → List Block →
    Table → Table → Memo → Type 0
KeepsForBlocks meaning states old new generations blocks t u memo =
    KeepsOnWay (meaning old) (meaning new) (states old) (states new)
    (λ P. All (λ b. P (later_of (meaning old) generations t b.quadrants)) blocks) t u memo

-- r is the number of the result of the block with these quadrants
abbrev pub FindsBlock : (List ℕ → ℕ) → ℕ → List ℕ → Table → Table → ℕ → Type 0
FindsBlock next generations quadrants t u = λ r.
    StandsFor u.rows 1 r (later_of next generations t quadrants)

-- the first many of the blocks have their results, and all the quadrants that they had
pub record FirstHaveResults (next : List ℕ → ℕ) (generations many : ℕ) (olds news : List Block)
    (t u : Table) : Type 0 where
  pub count : length news ≡ length olds
  pub same : (j : ℕ) (d : Block) → (get_or news j d).quadrants ≡ (get_or olds j d).quadrants
  pub found : (j : ℕ) (d : Block) → j < many →
      FindsBlock next generations (get_or olds j d).quadrants t u (get_or news j d).result
