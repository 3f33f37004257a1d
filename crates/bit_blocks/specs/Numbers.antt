-- Squares of cells of the states 0 and 1 as numbers: each cell is a bit.
use Rattle.std.specs.Prelude.{ℕ, ◌/◌, ◌%◌, List, [], get_or}
use Rattle.worlds.specs.Square.{Square, one, four}

-- four states as a square
abbrev pub of_four : List ℕ → Square
of_four states =
    four (one (get_or states 0 0)) (one (get_or states 1 0)) (one (get_or states 2 0))
    (one (get_or states 3 0))

-- the square of 2 by 2 cells that the last four bits are: nw + 2 ne + 4 sw + 8 se
unfoldable pub two_of : ℕ → Square
two_of n = four (one (n % 2)) (one (n / 2 % 2)) (one (n / 4 % 2)) (one (n / 8 % 2))

-- the block of 4 by 4 cells with this number, whose quadrants have four bits each
unfoldable pub block_of : ℕ → Square
block_of n = four (two_of n) (two_of (n / 16)) (two_of (n / 256)) (two_of (n / 4096))

-- the square of 8 by 8 cells of four blocks
unfoldable pub eight_of : List ℕ → Square
eight_of blocks =
    four (block_of (get_or blocks 0 0)) (block_of (get_or blocks 1 0))
    (block_of (get_or blocks 2 0)) (block_of (get_or blocks 3 0))

-- the square of 16 by 16 cells of four times four blocks
unfoldable pub sixteen_of : List (List ℕ) → Square
sixteen_of squares =
    four (eight_of (get_or squares 0 [])) (eight_of (get_or squares 1 []))
    (eight_of (get_or squares 2 [])) (eight_of (get_or squares 3 []))
