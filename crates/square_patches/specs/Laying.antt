-- Patches laid on squares of a table.
use Rattle.std.specs.Prelude.{◌≡◌, ℕ, zero, suc, ◌-◌, ◌^◌, List, ℤ, pos, ◌+ℤ◌, unwrap_or}
use Rattle.worlds.specs.Square as squares
use Rattle.worlds.specs.Square.{one, four}
use Rattle.square_tree.specs.Cells.{Cells, least, state_at}
use Rattle.square_tree.specs.Quadtree.{Quadtree, keep, cell, quad}
use Rattle.square_table.specs.declared.square.Square.{Square}
use Rattle.square_table.specs.Squares.{Table, IsNumber, AreNumbers, square_in, square_of, IsHeld, level_of, cells_of}

-- a square of level k whose upper left cell is at (x, y): each cell has the state that is said of
-- it, and its own where none is said
unfoldable pub laid_at : Cells → ℕ → ℤ → ℤ → squares.Square → squares.Square
laid_at c k x y (one s) = one (unwrap_or (state_at c x y) s)
laid_at c zero x y (four nw ne sw se) = four nw ne sw se
laid_at c (suc k) x y (four nw ne sw se) =
    let h = pos (2 ^ k) in
    four (laid_at c k x y nw) (laid_at c k (x +ℤ h) y ne)
    (laid_at c k x (y +ℤ h) sw) (laid_at c k (x +ℤ h) (y +ℤ h) se)

-- the same of a square round (0, 0)
abbrev pub laid_on : Cells → ℕ → squares.Square → squares.Square
laid_on c k s = laid_at c k (least k) (least k) s

-- s is the square of the table for the square before, with the cells laid on it
pub record IsLaidOn (c : Cells) (old : Table) (before : Square) (new : Table) (s : Square)
    : Type 0 where
  pub held : IsHeld new s
  pub level : level_of s ≡ level_of before
  pub cells : cells_of new s ≡ laid_on c (level_of before) (cells_of old before)

-- a square of which each cell has the state that a quadtree of the square's level says, and its own
-- where none is said
abbrev pub laid : Quadtree → squares.Square → squares.Square
laid keep s = s
laid (cell c) s = one c
laid (quad a b c d) (one s) = one s
laid (quad a b c d) (four nw ne sw se) = four (laid a nw) (laid b ne) (laid c sw) (laid d se)

-- n is the number of the square for that of level k with the number m, with the quadtree laid on it
pub record IsLaidAs (t : Quadtree) (old : List (List ℕ)) (k m : ℕ) (new : List (List ℕ)) (n : ℕ)
    : Type 0 where
  pub number : IsNumber new k n
  pub square : square_in new k n ≡ laid t (square_in old k m)

-- the same of the squares of level k that four numbers stand for
pub record AreLaidAs (t : Quadtree) (old : List (List ℕ)) (k : ℕ) (kids : List ℕ)
    (new : List (List ℕ)) (all : List ℕ) : Type 0 where
  pub numbers : AreNumbers new k all
  pub squares : square_of new k all ≡ laid t (square_of old k kids)

-- the quadtree that says what this one says in one of its quadrants
abbrev pub in_quadrant : ℕ → Quadtree → Quadtree
in_quadrant zero t = quad t keep keep keep
in_quadrant (suc zero) t = quad keep t keep keep
in_quadrant (suc (suc zero)) t = quad keep keep t keep
in_quadrant (suc (suc (suc q))) t = quad keep keep keep t

-- so many levels up, in the corner of that quadrant
abbrev pub in_corner : ℕ → ℕ → Quadtree → Quadtree
in_corner q zero t = t
in_corner q (suc d) t = in_quadrant q (in_corner q d t)

-- so many levels up, round the middle: the cell at (0, 0) begins the south-eastern quadrant
abbrev pub in_middle : ℕ → Quadtree → Quadtree
in_middle d keep = keep
in_middle zero (cell s) = cell s
in_middle (suc d) (cell s) = in_quadrant 3 (in_corner 0 d (cell s))
in_middle d (quad nw ne sw se) =
    quad (in_corner 3 d nw) (in_corner 2 d ne) (in_corner 1 d sw) (in_corner 0 d se)

-- the quadtree, of level j, is laid in the corner of that quadrant
abbrev pub IsLaidInCorner : ℕ → ℕ → Quadtree → Table → ℕ → ℕ → Table → ℕ → Type 0
IsLaidInCorner q j t old k m new = IsLaidAs (in_corner q (k - j) t) old.rows k m new.rows

-- it is laid round the middle
abbrev pub IsLaidInMiddle : ℕ → Quadtree → Table → ℕ → ℕ → Table → ℕ → Type 0
IsLaidInMiddle j t old k m new = IsLaidAs (in_middle (k - j) t) old.rows k m new.rows

-- it is laid round the middle of a square of level k, by the quadrants of that
abbrev pub AreLaidInMiddle : ℕ → Quadtree → Table → ℕ → List ℕ → Table → List ℕ → Type 0
AreLaidInMiddle j t old k kids new = AreLaidAs (in_middle (k - j) t) old.rows (k - 1) kids new.rows
