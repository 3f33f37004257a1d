-- The rows that a plane keeps, and those that are written of it.
use Rattle.plane_core.proofs.Names.{AreCanonical, AreKept, AreSquaresOf, IsRow, List, SquareRow, World, [], arith, completed, empty_row, get_or, refl, root_of, written, ℕ, ◌∙◌, ◌∷◌, ◌≡◌}
use Rattle.worlds.specs.Square.{empty_square}
use Rattle.plane_core.specs.Rows.{number_row, number_square, root_level, square_in, world_of_rows}
use Rattle.plane_core.proofs.Shared.Sound.{IsNumber-state}

-- what is written stands for the same world
pub world-written : (rows : List SquareRow) → world_of_rows (written rows) ≡ world_of_rows rows
unfolding world_of_rows root_level square_in empty_square
world-written rows = grind (arith)

level-empty : root_level (empty_row ∷ []) ≡ root_level []
unfolding root_level
level-empty = refl

completed-empty : completed (root_level (empty_row ∷ [])) (root_of (empty_row ∷ [])) ≡ []
unfolding root_level square_in number_square number_row
completed-empty = refl

no_kid : (q : ℕ) → get_or empty_row.kids q 0 ≡ 0
no_kid q = grind (arith)

row-empty : IsRow [] empty_row
row-empty = record { low = omega arith; high = omega arith; kids = λ q h. IsNumber-state [] (get_or empty_row.kids q 0) (omega (arith, no_kid q)) }

-- the rows that a plane keeps are those that are written, but for the empty square
pub canonical-written : (rows : List SquareRow) → AreKept rows → AreCanonical (written rows)
canonical-written rows kept = grind (arith, completed-empty, level-empty, world-written, row-empty)

-- what is written of the rows that a plane keeps are the rows of its world
pub squares-written : (kept : List SquareRow) (w : World) → AreKept kept → world_of_rows kept ≡ w → AreSquaresOf w (written kept)
squares-written kept w are is = record { canonical = canonical-written kept are; world = world-written kept ∙ is }
