-- The row of a node stands for its square.
use Rattle.multistate_macrocell.proofs.Names.{Adds, AreStates, Bitmap, CanFollow, Cells, IsNumber, IsNumber-state, IsRow, List, Node, SquareRow, arith, drawn, kid, level_of, row_number, row_of, square_by, square_in-state, square_of_row}
use Rattle.multistate_macrocell.proofs.Names.{suc, zero, ℕ, ◌<◌, ◌≡◌}
use Rattle.macrocell_lines.specs.declared.node.Node.TheVariants.{Square as Quartered, Bitmap as Drawn}
use Rattle.multistate_macrocell.specs.Quadtree.{square_of}

state_kid : (rows : List SquareRow) (a b c d q : ℕ) → AreStates a b c d → q < 4 → IsNumber rows 0 (kid (row_of 1 a b c d) q)
state_kid rows a b c d zero h q = IsNumber-state rows a h.nw_state
state_kid rows a b c d (suc zero) h q = IsNumber-state rows b h.ne_state
state_kid rows a b c d (suc (suc zero)) h q = IsNumber-state rows c h.sw_state
state_kid rows a b c d (suc (suc (suc zero))) h q = IsNumber-state rows d h.se_state
state_kid rows a b c d (suc (suc (suc (suc n)))) h q = absurd (omega (arith, q))

-- four states are a row
pub cells-row : (rows : List SquareRow) (a b c d : ℕ) → AreStates a b c d → IsRow rows (row_of 1 a b c d)
cells-row rows a b c d h = record { low = omega arith; high = omega arith; kids = λ q k. state_kid rows a b c d q h k }

cells_square : (rows : List SquareRow) (numbers : List ℕ) (a b c d : ℕ) → square_of_row rows (row_of 1 a b c d) ≡ square_by rows numbers (Cells a b c d)
unfolding square_of
cells_square rows numbers a b c d = grind (arith, square_in-state)

-- that row stands for the square of the node
pub cells-added : (rows new : List SquareRow) (numbers : List ℕ) (node : Node) (a b c d n : ℕ) → node ≡ Cells a b c d
    → Adds rows new 1 n (square_of_row rows (row_of 1 a b c d)) → Adds rows new (level_of node) n (square_by rows numbers node)
cells-added rows new numbers node a b c d n is adds = rw is (rw (cells_square rows numbers a b c d) at adds)

-- that row stands for the square of the node
pub quartered-added : (rows new : List SquareRow) (numbers : List ℕ) (node : Node) (level a b c d n : ℕ) → node ≡ Quartered level a b c d
    → Adds rows new level n (square_of_row rows (row_of level (row_number numbers a) (row_number numbers b) (row_number numbers c) (row_number numbers d)))
    → Adds rows new (level_of node) n (square_by rows numbers node)
unfolding square_of
quartered-added rows new numbers node level a b c d n is adds = rw is adds

-- and the last of the rows of a bitmap for the bitmap's
pub drawn-added : (rows new : List SquareRow) (numbers : List ℕ) (node : Node) (bitmap : Bitmap) (n : ℕ) → node ≡ Drawn bitmap → Adds rows new 3 n (drawn bitmap 3 0 0) → Adds rows new (level_of node) n (square_by rows numbers node)
unfolding square_of
drawn-added rows new numbers node bitmap n is adds = rw is adds

-- what is asked of a node, by its kind
pub cells-asked : (rows : List SquareRow) (numbers : List ℕ) (node : Node) (a b c d : ℕ) → node ≡ Cells a b c d → CanFollow rows numbers node → AreStates a b c d
cells-asked rows numbers node a b c d is h = rw is at h
