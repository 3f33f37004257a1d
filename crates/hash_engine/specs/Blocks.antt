-- Blocks of 4 by 4 cells that needn't be squares of a table, by the numbers of their quadrants.
use Rattle.std.specs.Prelude.{◌≡◌, ℕ, ◌<◌, List, [], length, map, get_or}
use Rattle.worlds.specs.Square as squares
use Rattle.square_table.specs.Squares.{Table, AreNumbers, square_of}
use Rattle.hash_life_laws.specs.Result.{later, result}
use Rattle.hash_life_laws.specs.Puts.{Puts, IsBelow, fours_of}
use Rattle.hash_engine.specs.Standing.{StandsFor, StandForAll}
use Rattle.hash_engine.specs.declared.block.Block.{Block}

abbrev pub no_block : Block
no_block = record { quadrants = []; result = 0 }

-- r is the number of the middle, one generation later, of the block with these quadrants
pub record IsLaterOf (next : List ℕ → ℕ) (rows : List (List ℕ)) (quadrants : List ℕ) (r : ℕ)
    : Type 0 where
  pub numbered : AreNumbers rows 1 quadrants
  pub result : StandsFor rows 1 r (later next (square_of rows 1 quadrants))

-- the result of a block is right, or isn't known
abbrev pub IsKnownBlock : (List ℕ → ℕ) → List (List ℕ) → Block → Type 0
IsKnownBlock next rows b = 0 < b.result → IsLaterOf next rows b.quadrants b.result

-- so it is with each of these
pub record AreKnownBlocks (next : List ℕ → ℕ) (rows : List (List ℕ)) (blocks : List Block)
    : Type 0 where
  pub each : (i : ℕ) → IsKnownBlock next rows (get_or blocks i no_block)

-- r is the number of the result of the block with these quadrants, if these blocks are right
abbrev pub IsRecalledOf : List Block → List ℕ → ℕ → Type 0
IsRecalledOf blocks quadrants = λ r. (next : List ℕ → ℕ) (rows : List (List ℕ)) →
    AreKnownBlocks next rows blocks → IsLaterOf next rows quadrants r

-- whatever the ones are right for, the others are right for
abbrev pub StayKnown : List Block → List Block → Type 0
StayKnown olds news = (next : List ℕ → ℕ) (rows : List (List ℕ)) →
    AreKnownBlocks next rows olds → AreKnownBlocks next rows news

-- if this block is right too
abbrev pub StayKnownWith : Block → List Block → List Block → Type 0
StayKnownWith b olds news = (next : List ℕ → ℕ) (rows : List (List ℕ)) →
    AreKnownBlocks next rows olds → IsKnownBlock next rows b → AreKnownBlocks next rows news

-- the block has the cells of the square
pub record IsBlock (rows : List (List ℕ)) (s : squares.Square) (b : Block) : Type 0 where
  pub numbered : AreNumbers rows 1 b.quadrants
  pub cells : square_of rows 1 b.quadrants ≡ s

-- each block has those of one of these squares
pub record AreBlocks (rows : List (List ℕ)) (blocks : List Block) (ss : List squares.Square)
    : Type 0 where
  pub count : length blocks ≡ length ss
  pub each : (j : ℕ) (d : Block) (e : squares.Square) → j < length blocks →
      IsBlock rows (get_or ss j e) (get_or blocks j d)

-- the middle of the block some generations later
abbrev pub later_of : (List ℕ → ℕ) → ℕ → Table → List ℕ → squares.Square
later_of next generations t quadrants = result next 0 generations (square_of t.rows 1 quadrants)

-- the block can be put to the rule, unless it is asked for no generation
pub record IsReadyBlock (next : List ℕ → ℕ) (state_count : ℕ) (rows : List (List ℕ))
    (generations : ℕ) (quadrants : List ℕ) : Type 0 where
  pub numbered : AreNumbers rows 1 quadrants
  pub below : Puts next 0 generations (square_of rows 1 quadrants) (IsBelow state_count)

abbrev pub result_of : Block → ℕ
result_of b = b.result

-- whatever squares the results of nine stand for, the four have the cells of those that overlap in
-- them
abbrev pub GiveFourBlocks : List Block → List Block → Type 0
GiveFourBlocks nine fours = (rows : List (List ℕ)) (ss : List squares.Square) →
    StandForAll rows 1 (map result_of nine) ss → AreBlocks rows fours (fours_of ss)
