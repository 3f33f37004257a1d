-- Squares that are added to a table on the way to results.
use Rattle.std.specs.Prelude.{ℕ, suc, ◌-◌, ◌≡◌, List, [], ◌∷◌, get_or, map, Contains}
use Rattle.worlds.specs.Square as squares
use Rattle.worlds.specs.Square.{one, four}
use Rattle.square_table.specs.declared.square.Square.{Square}
use Rattle.square_table.specs.Squares.{Table, AreNumbers, square_in, square_of, Grows, level_of, cells_of}
use Rattle.square_table.specs.Made.{AreAmong, Adds}
use Rattle.hash_life_laws.specs.Result.{middle, later}
use Rattle.hash_life_laws.specs.Puts.{fours_of}
use Rattle.hash_life_laws.specs.Makes.{Makes}
use Rattle.hash_engine.specs.Standing.{StandsFor, StandForAll}

-- whatever square of 4 by 4 cells or more n stands for, the table has no square more but those of f
abbrev pub AddsOf : (squares.Square → List squares.Square) → Table → ℕ → Table → Type 0
AddsOf f t n u = (k : ℕ) (s : squares.Square) → StandsFor t.rows (suc (suc k)) n s → Adds (f s) t u

-- whatever squares nine stand for, the table has no square more but the four that overlap in them
abbrev pub AddsFours : Table → List ℕ → Table → Type 0
AddsFours t nine u =
    (k : ℕ) (ss : List squares.Square) → StandForAll t.rows k nine ss → Adds (fours_of ss) t u

-- whatever square of 4 by 4 cells or more n stands for, r stands for f of it
abbrev pub GivesOf : (squares.Square → squares.Square) → Table → ℕ → Table → ℕ → Type 0
GivesOf f t n u = λ r.
    (k : ℕ) (s : squares.Square) → StandsFor t.rows (suc (suc k)) n s →
    StandsFor u.rows (suc k) r (f s)

-- whatever squares these are the quadrants of, r stands for its middle
abbrev pub GivesMiddle : Table → List ℕ → Table → ℕ → Type 0
GivesMiddle t quadrants u = λ r. (k : ℕ) → AreNumbers t.rows (suc k) quadrants →
    StandsFor u.rows (suc k) r (middle (square_of t.rows (suc k) quadrants))

-- and the table has no square more but that
abbrev pub AddsMiddle : Table → List ℕ → Table → Type 0
AddsMiddle t quadrants u = (k : ℕ) → AreNumbers t.rows (suc k) quadrants →
    Adds (middle (square_of t.rows (suc k) quadrants) ∷ []) t u

-- four squares by the lists of their quadrants, which are of level k
pub record MakeFour (rows : List (List ℕ)) (k : ℕ) (all : List (List ℕ)) (ss : List squares.Square)
    : Type 0 where
  pub nw : AreNumbers rows k (get_or all 0 [])
  pub ne : AreNumbers rows k (get_or all 1 [])
  pub sw : AreNumbers rows k (get_or all 2 [])
  pub se : AreNumbers rows k (get_or all 3 [])
  pub are : ss ≡ square_of rows k (get_or all 0 []) ∷ square_of rows k (get_or all 1 [])
      ∷ square_of rows k (get_or all 2 []) ∷ square_of rows k (get_or all 3 []) ∷ []

-- whatever four squares these lists make, these stand for them
abbrev pub GiveJoined : Table → List (List ℕ) → Table → List ℕ → Type 0
GiveJoined t all u = λ ns. (k : ℕ) (ss : List squares.Square) → MakeFour t.rows k all ss →
    StandForAll u.rows (suc k) ns ss

-- and the table has no square more but them
abbrev pub AddsJoined : Table → List (List ℕ) → Table → Type 0
AddsJoined t all u = (k : ℕ) (ss : List squares.Square) → MakeFour t.rows k all ss → Adds ss t u

-- whatever squares nine stand for, these lists make the middles of the four that overlap in them
abbrev pub AreMiddles : Table → List ℕ → List (List ℕ) → Type 0
AreMiddles t nine all = (k : ℕ) (ss : List squares.Square) → StandForAll t.rows (suc k) nine ss →
    MakeFour t.rows k all (map middle (fours_of ss))

-- the square of four
abbrev pub square_of_four : List squares.Square → squares.Square
square_of_four (a ∷ b ∷ c ∷ d ∷ []) = four a b c d
square_of_four other = one 0

-- whatever squares nine stand for, r stands for that of these middles
abbrev pub GivesMiddles : Table → List ℕ → Table → ℕ → Type 0
GivesMiddles t nine u = λ r. (k : ℕ) (ss : List squares.Square) →
    StandForAll t.rows (suc k) nine ss →
    StandsFor u.rows (suc (suc k)) r (square_of_four (map middle (fours_of ss)))

-- and the table has no square more but the middles and it
abbrev pub AddsMiddles : Table → List ℕ → Table → Type 0
AddsMiddles t nine u = (k : ℕ) (ss : List squares.Square) → StandForAll t.rows (suc k) nine ss →
    Adds (square_of_four (map middle (fours_of ss)) ∷ map middle (fours_of ss)) t u

-- whatever square of 4 by 4 cells or more n stands for, these stand for those of f
abbrev pub GiveAllOf : (squares.Square → List squares.Square) →
    Table → ℕ → Table → List ℕ → Type 0
GiveAllOf f t n u = λ ns.
    (k : ℕ) (s : squares.Square) → StandsFor t.rows (suc (suc k)) n s →
    StandForAll u.rows (suc k) ns (f s)

-- whatever squares nine stand for, these stand for the four that overlap in them
abbrev pub GiveFours : Table → List ℕ → Table → List ℕ → Type 0
GiveFours t nine u = λ ns.
    (k : ℕ) (ss : List squares.Square) → StandForAll t.rows k nine ss →
    StandForAll u.rows (suc k) ns (fours_of ss)

-- r stands for the middle, one generation later, of the square of 4 by 4 cells with the number n
abbrev pub GivesPut : (List ℕ → ℕ) → Table → ℕ → Table → ℕ → Type 0
GivesPut next t n u = λ r. StandsFor u.rows 1 r (later next (square_in t.rows 2 n))

-- r stands for that of the block with these quadrants
abbrev pub GivesBlockPut : (List ℕ → ℕ) → Table → List ℕ → Table → ℕ → Type 0
GivesBlockPut next t quadrants u = λ r.
    StandsFor u.rows 1 r (later next (square_of t.rows 1 quadrants))

-- the one table with more rows, or none, of squares on the way to the root's result is the other
pub record GrowsOnWay (next : List ℕ → ℕ) (generations : ℕ) (t : Table) (root : Square) (u : Table)
    : Type 0 where
  pub grows : Grows t u
  pub among : (all : List squares.Square) →
      Makes next (level_of root - 2) generations (cells_of t root) (Contains all) →
      AreAmong all t.rows → AreAmong all u.rows
