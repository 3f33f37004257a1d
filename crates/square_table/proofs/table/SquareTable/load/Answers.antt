use Rattle.square_table.proofs.Names.{AreSquaresOf, Contains, Fits, GrowsFor, GrowsFrom, HasEmpty, IfOk_then, IsCentred, IsRootLevel, List, SquareRow, Table, Tells, World, [], ap, arith, cells_of, edge, empty_below, level_of, refl}
use Rattle.square_table.proofs.Names.{root_level, root_level-none, root_of, rooted, square_at, square_in-none, subst, sym, ℕ, ◌∙◌, ◌∷◌, ◌≡◌, ◌≤◌}
use Rattle.worlds.specs.Square as squares
use Rattle.worlds.specs.Square.{empty_square}
use Rattle.plane_core.specs.Rows as listed
use Rattle.square_table.specs.declared.square.Square.{Square}
use Rattle.square_table.specs.Made.{HoldsWithin}
use Rattle.square_table.proofs.Shared.Growth.{Grows-same}
use Rattle.square_table.proofs.Listing.{each_square}
use Rattle.square_table.proofs.Canonical.{cells_below, levels_up_to}
use Rattle.square_table.proofs.Shared.Centring.{root_centred}
use Rattle.square_table.proofs.table.SquareTable.load.Goals as goal

pub load_root-requires : goal.load_root-requires
load_root-requires c = grind (arith, levels_up_to)

first_empty : (all : List squares.Square) → HoldsWithin (Contains all) (empty_square 1) → Contains all (empty_square 1)
unfolding HoldsWithin empty_square
first_empty all within = within.0

-- the squares of the rows are those round the origin, and what these are made of
loaded : (w : World) (rows : List SquareRow) (t u : Table) → AreSquaresOf w rows → GrowsFrom (empty_below rows) rows t u → GrowsFor w t u
loaded w rows t u is grows = record {
  grows = grows.grows;
  notes = grows.notes;
  among = λ k all some fits start are.
      let level : root_level rows ≤ k = is.canonical.least.least k some (subst (Fits k) (sym is.world) fits) in
      let low = (rooted rows is.canonical.valid).low in
      let at : root_of rows ≡ square_at w (root_level rows) (edge (root_level rows)) (edge (root_level rows)) = (subst (λ (v : World). IsCentred v (root_level rows) (root_of rows)) is.world (root_centred rows is.canonical.valid)).square in
      let within : HoldsWithin (Contains all) (root_of rows) = subst (HoldsWithin (Contains all)) (sym at) (start.squares (root_level rows) low level) in
      grows.among all (empty_held all rows k level within start.empty) (each_square (Contains all) rows is.canonical within) are;
}
  where
    empty_held : (all : List squares.Square) (rows : List SquareRow) (k : ℕ) → root_level rows ≤ k → HoldsWithin (Contains all) (root_of rows) → HasEmpty all k → HasEmpty all (empty_below rows)
    empty_held all [] k level within empty j some below =
        let one : 1 ≡ j = omega (arith, some, below) in
        let root : root_of [] ≡ empty_square 1 = ap (λ l. listed.square_in [] l 0) root_level-none ∙ square_in-none [] 1 in
        subst (λ i. Contains all (empty_square i)) one (first_empty all (subst (HoldsWithin (Contains all)) root within))
    empty_held all (row ∷ rows) k level within empty j some below = empty j some (omega (arith, below, level))

loaded_seen : (w : World) (rows seen : List SquareRow) (t u : Table) → AreSquaresOf w rows → seen ≡ rows → GrowsFrom (empty_below seen) seen t u → GrowsFor w t u
loaded_seen w rows seen t u is same grows = loaded w seen t u (subst (AreSquaresOf w) (sym same) is) grows

pub returns-in_err-squares-clause-grows : goal.returns-in_err-squares-clause-grows
returns-in_err-squares-clause-grows c = record { grows = Grows-same c.args.self.now; notes = refl; among = λ k all some fits start are. are }

pub returns-clause-grows : goal.returns-clause-grows
returns-clause-grows c = loaded_seen c.args.plane.now c.in_ok-squares.squares.items c.deref.result.now c.args.self.now c.load_root.new.self c.in_ok-squares.ensures.squares c.deref.ensures.value c.load_root.ensures.grows

root_low : (w : World) (rows seen : List SquareRow) (k : ℕ) → AreSquaresOf w rows → seen ≡ rows → k ≡ root_level seen → IsRootLevel k w
root_low w rows seen k are same level = grind (arith, rooted)

centred : (s : Square) (w : World) (rows seen : List SquareRow) (t : Table) → AreSquaresOf w rows → seen ≡ rows → Tells t (root_level seen) (root_of seen) s → IsCentred w (level_of s) (cells_of t s)
centred s w rows seen t are same is = grind (arith, root_centred)

pub returns-clause-square : goal.returns-clause-square
returns-clause-square c = grind (arith, IfOk_then, root_low, centred)

pub returns-clause-states : goal.returns-clause-states
returns-clause-states c = λ n low below old.
    let rows = c.in_ok-squares.squares.items in
    c.load_root.ensures.grows.states n low
    (λ i q h hq level. cells_below c.args.plane.now c.deref.result.now n (subst (AreSquaresOf c.args.plane.now) (sym c.deref.ensures.value) c.in_ok-squares.ensures.squares) below i q h hq level) old
