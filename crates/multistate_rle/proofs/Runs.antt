-- Tokens of cells that come one by one.
use Rattle.multistate_rle.proofs.Names.{List, Place, Token, [], ap, arith, behind, distance, drop, drop_of_length-le, ints, joined, length, map, nat_tests, of_cell, place_of, pos, tokens, tokens_on, unsigned_abs, way, way_by, zeros, ℕ, ℤ}
use Rattle.multistate_rle.proofs.Names.{◌++◌, ◌+ℤ◌, ◌+◌, ◌-ℤ◌, ◌∷◌, ◌≡◌, ◌≤◌}
use Rattle.worlds.specs.declared.cell.Cell.{Cell}
use Rattle.multistate_rle.specs.declared.token.Token.TheVariants.{Run, RowEnds}
use Rattle.multistate_rle.specs.declared.open_run.OpenRun.{OpenRun}

-- the way to another row
pub way_rows : (n : ℕ) (left : ℤ) (from to : Place) → (n ≡ 0 → ⊥) → way_by n left from to ≡ RowEnds n ∷ zeros (distance left to.1)
way_rows n left from to h = grind (arith, ints)

distance-same : (a : ℤ) → distance a a ≡ 0
distance-same a = let e : (a -ℤ a) ≡ pos 0 = omega (arith, ints) in ap unsigned_abs e

distance-none : (a b : ℤ) → distance a b ≡ 0 → a ≡ b
distance-none a b h = let e : (b -ℤ a) ≡ pos 0 = grind (arith, ints) in omega (arith, ints, e)

-- one more cell of a run
joined-more : (n s : ℕ) (ts : List Token) → joined n s (joined 1 s ts) ≡ joined (n + 1) s ts
joined-more n s ts = grind (arith, nat_tests)

-- the run goes on with the cell
abbrev pub GoesOn : OpenRun → Cell → Type 0
GoesOn r c = (r.y ≡ c.y) × (r.next ≡ c.x) × (r.state ≡ c.state)

-- a cell that goes on with a run
pub goes_on : (left : ℤ) (r : OpenRun) (c : Cell) (cs : List (Place × ℕ)) → GoesOn r c
    → joined (r.count + 1) r.state (tokens left (r.y, r.next +ℤ pos 1) cs) ≡ tokens_on left r (of_cell c ∷ cs)
goes_on left r c cs same = grind (arith, ints, distance-same, joined-more)

-- a run of another state stands before a cell
apart : (n s s' : ℕ) (ts : List Token) → (s ≡ s' → ⊥) → joined n s (joined 1 s' ts) ≡ Run n s ∷ joined 1 s' ts
apart n s s' ts h = grind (arith, nat_tests)

-- a cell that doesn't go on with a run
pub breaks : (left : ℤ) (r : OpenRun) (c : Cell) (cs : List (Place × ℕ)) → (GoesOn r c → ⊥)
    → Run r.count r.state ∷ (way left (r.y, r.next) (place_of c) ++ joined 1 c.state (tokens left (behind (place_of c)) cs)) ≡ tokens_on left r (of_cell c ∷ cs)
breaks left r c cs h = grind (arith, ints, nat_tests, apart, distance-none)

-- the run of a first cell
pub begins : (left : ℤ) (r : OpenRun) (c : Cell) (cs : List (Place × ℕ)) → (r.y ≡ c.y) × (r.next ≡ (c.x +ℤ pos 1)) → (r.count ≡ 1) × (r.state ≡ c.state) → tokens_on left r cs ≡ joined 1 c.state (tokens left (behind (place_of c)) cs)
begins left r c cs place cells = λ i. joined (cells.0 i) (cells.1 i) (tokens left (place.0 i, place.1 i) cs)

-- the cells behind the last one
pub cells_done : (cells : List Cell) (i : ℕ) → length cells ≤ i → map of_cell (drop i cells) ≡ []
cells_done cells i h = ap (map of_cell) (drop_of_length-le cells h)
