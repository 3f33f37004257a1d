-- The rows of a plane: their levels, and their states.
use Rattle.square_table.proofs.Names.{AllBelow, AreSquaresOf, CellsBelow, LevelsUpTo, List, Square, SquareRow, World, [], arith, completed, each_of_four, four, get_or, kid, no_row, number_square-levels, one, root_level, root_of, rooted}
use Rattle.square_table.proofs.Names.{row_square, subst, suc, sym, world_of_rows, written, zero, ℕ, ℤ, ◌<◌, ◌≤◌}
use Rattle.worlds.specs.Square.{square_at}
use Rattle.plane_core.specs.Rows.{square_in}
use Rattle.square_table.specs.Made.{HoldsWithin}
use Rattle.square_table.proofs.Listing.{each_square}
use Rattle.square_table.proofs.Shared.Centring.{root_centred}

-- each state of the square is below c
StatesBelow : ℕ → Square → Type 0
StatesBelow c (one s) = s < c
StatesBelow c (four nw ne sw se) = StatesBelow c nw × StatesBelow c ne × StatesBelow c sw × StatesBelow c se

below_at : (w : World) (c k : ℕ) (x y : ℤ) → AllBelow c w → StatesBelow c (square_at w k x y)
unfolding StatesBelow square_at
below_at w c zero x y all = all x y
below_at w c (suc k) x y all = (below_at w c k _ _ all, below_at w c k _ _ all, below_at w c k _ _ all, below_at w c k _ _ all)

below_within : (c : ℕ) (s : Square) → StatesBelow c s → HoldsWithin (StatesBelow c) s
unfolding StatesBelow HoldsWithin
below_within c (one s) h = tt
below_within c (four nw ne sw se) h = (h, below_within c nw h.0, below_within c ne h.1, below_within c sw h.2, below_within c se h.3)

pub cells_below : (w : World) (rows : List SquareRow) (c : ℕ) → AreSquaresOf w rows → AllBelow c w → CellsBelow c rows
unfolding StatesBelow square_in
cells_below w rows c are below i q h hq level =
    let states = below_at (world_of_rows rows) c (root_level rows) _ _ (subst (AllBelow c) (sym are.world) below) in
    let root : StatesBelow c (root_of rows) = subst (StatesBelow c) (sym (root_centred rows are.canonical.valid).square) states in
    let own : StatesBelow c (row_square rows i) = each_square (StatesBelow c) rows are.canonical (below_within c (root_of rows) root) i h in
    let four = subst (λ k. StatesBelow c (square_in rows k (suc i))) level own in
    each_of_four (λ p. kid (get_or rows i no_row) p < c) four.0 four.1 four.2 four.3 q hq

levels_written : (m : ℕ) (rows : List SquareRow) → 1 ≤ m → LevelsUpTo m rows → LevelsUpTo m (written rows)
levels_written m rows low up i h = grind (arith)

pub levels_up_to : (w : World) (rows : List SquareRow) → AreSquaresOf w rows → LevelsUpTo (root_level rows) rows
levels_up_to w rows are =
    let k = root_level rows in
    let walked = number_square-levels k (root_of rows) [] k (omega arith) (λ i h. absurd (omega (arith, h))) in
    subst (LevelsUpTo k) are.canonical.walked (levels_written k (completed k (root_of rows)) (rooted rows are.canonical.valid).low walked)
