-- A world's rows, by its cells.
use Rattle.plane_core.proofs.Names.{AllBelow, AllByRecursion, AreKept, AreRows, AreSquaresOf, Bool, Fits, HasMargin, IsIn, IsLeastLevel, IsSquare, List, Place, SquareRow, World, [], and_from, and_parts, ap, arith, blank, by_place, cases_lt}
use Rattle.plane_core.proofs.Names.{cell, cell-state_at, completed, edge_of, fails_before_first, false, get_or, get_or-range_with_len, inl, inr, int_le, int_lt, ints, list_all, live, live-states, passes_at_first, pos, position_or_len}
use Rattle.plane_core.proofs.Names.{position_or_len_is, range_with_len, refl, root_level, root_of, square_at, subst, suc, sym, true, world_of_rows, written, ℕ, ℤ, ◌&&◌, ◌+ℤ◌, ◌+◌, ◌-◌, ◌<ℤ◌, ◌<◌, ◌^◌, ◌∙◌, ◌∷◌, ◌≡◌, ◌≤ℤ◌, ◌≤◌}
use Rattle.plane_core.proofs.Shared.Cells.{same_put, square_at-IsSquare}
use Rattle.plane_core.proofs.Shared.Centring.{root-world}
use Rattle.plane_core.proofs.Shared.Roots.{kept-none, root-below, root-Fits, root-IsSquare, rooted, world-none, world-root}
use Rattle.plane_core.specs.Laws.{EmptyWorldHasOneRow, WorldsHaveRows}
use Rattle.plane_core.specs.WorldRows.{holds_all, is_within, least_level, rows_of}
use Rattle.plane_core.proofs.Shared.Tidy.{IsListed, listed}
use Rattle.plane_core.proofs.Written.{squares-written}

-- the root of rows is the square of their world
pub root-square_at : (rows : List SquareRow) → AreRows rows →
    square_at (world_of_rows rows) (root_level rows) (edge_of (root_level rows)) (edge_of (root_level rows))
    ≡ root_of rows
root-square_at rows valid =
    let k = root_level rows in
    let w = world_of_rows rows in
    let is = root-IsSquare rows valid in
    let small = root-below rows valid in
    same_put k _ (root_of rows) (edge_of k) (edge_of k) (square_at-IsSquare w k _ _ small) is
    (root-world w k (root-Fits rows valid) small ∙ world-root rows)

-- what the test of a coordinate says
within-left : (k : ℕ) (z : ℤ) → is_within k z ≡ true → edge_of k ≤ℤ z
within-left k z h = record { le = let left : int_le (edge_of k) z ≡ true = (and_parts (int_le (edge_of k) z) (int_lt z (edge_of k +ℤ pos (2 ^ k))) h).0 in rw left tt }

within-right : (k : ℕ) (z : ℤ) → is_within k z ≡ true → z <ℤ (edge_of k +ℤ pos (2 ^ k))
within-right k z h = record { lt = let right : int_lt z (edge_of k +ℤ pos (2 ^ k)) ≡ true = (and_parts (int_le (edge_of k) z) (int_lt z (edge_of k +ℤ pos (2 ^ k))) h).1 in rw right tt }

not_over : (a b : ℤ) → a ≤ℤ b → int_le a b ≡ true
not_over a b h = grind (arith, ints)

is_under : (a b : ℤ) → a <ℤ b → int_lt a b ≡ true
is_under a b h = grind (arith, ints)

within-from : (k : ℕ) (z : ℤ) → edge_of k ≤ℤ z → z <ℤ (edge_of k +ℤ pos (2 ^ k)) → is_within k z ≡ true
within-from k z a b = and_from (int_le (edge_of k) z) (int_lt z (edge_of k +ℤ pos (2 ^ k))) (not_over (edge_of k) z a) (is_under z (edge_of k +ℤ pos (2 ^ k)) b)

-- the cell of an entry lies in a root
abbrev Lies : ℕ → Place × ℕ → Type 0
Lies k e = IsIn (2 ^ k) (edge_of k) (edge_of k) e.0.1 e.0.0

lies-tested : (k : ℕ) (e : Place × ℕ) → (is_within k e.0.1 && is_within k e.0.0) ≡ true → Lies k e
lies-tested k e h = grind (arith, and_parts, within-left, within-right)

tested-lies : (k : ℕ) (e : Place × ℕ) → Lies k e → (is_within k e.0.1 && is_within k e.0.0) ≡ true
tested-lies k e h = and_from (is_within k e.0.1) (is_within k e.0.0) (within-from k e.0.1 h.left h.right) (within-from k e.0.0 h.top h.bottom)

all_lie : (k : ℕ) (es : List (Place × ℕ)) → list_all (λ cell. is_within k cell.0.1 && is_within k cell.0.0) es ≡ true → AllByRecursion (Lies k) es
all_lie k [] h = tt
all_lie k (e ∷ es) h =
    let both = and_parts (is_within k e.0.1 && is_within k e.0.0) (list_all (λ cell. is_within k cell.0.1 && is_within k cell.0.0) es) h in
    (lies-tested k e both.0, all_lie k es both.1)

-- a root that passes the test holds the live cells
holds-fits : (w : World) (k : ℕ) → holds_all w k ≡ true → Fits k w
holds-fits w k h x y alive =
    let state = cell-state_at w x y in
    by_place (live w) (λ x y s. IsIn (2 ^ k) (edge_of k) (edge_of k) x y) (all_lie k (live w) h) x y (subst (λ n. 0 < n) state alive)

each_tested : (w : World) (k : ℕ) (es : List (Place × ℕ)) → Fits k w → AllByRecursion (λ (e : Place × ℕ). (cell w e.0.1 e.0.0 ≡ e.1) × (0 < e.1)) es → list_all (λ cell. is_within k cell.0.1 && is_within k cell.0.0) es ≡ true
each_tested w k [] fits h = refl
each_tested w k (e ∷ es) fits h =
    let here = h.0 in
    and_from (is_within k e.0.1 && is_within k e.0.0) (list_all (λ cell. is_within k cell.0.1 && is_within k cell.0.0) es)
    (tested-lies k e (fits e.0.1 e.0.0 (subst (λ n. 0 < n) (sym here.0) here.1))) (each_tested w k es fits h.1)

-- and one that holds them passes
fits-holds : (w : World) (k : ℕ) → Fits k w → holds_all w k ≡ true
fits-holds w k fits = each_tested w k (live w) fits (live-states w)

fails_below : (w : World) (j k : ℕ) → IsLeastLevel k w → 1 ≤ j → j < k → holds_all w j ≡ false
fails_below w j k least low below =
    by (holds_all w j) (λ h. let up : k ≤ j = least.least j low (holds-fits w j h) in omega arith)
  where
    by : (b : Bool) → (b ≡ true → ⊥) → b ≡ false
    by true h = absurd (h refl)
    by false h = refl

least_level-is : (w : World) → least_level w ≡ 1 + position_or_len (holds_all w) (range_with_len 1 62)
unfolding least_level
least_level-is w = refl

-- the least level is the least
pub least_level-least : (w : World) (k : ℕ) → IsLeastLevel k w → 1 ≤ k → k ≤ 62 → least_level w ≡ k
least_level-least w k least low high =
    let levels = range_with_len 1 62 in
    let at : (i : ℕ) → i < 62 → get_or levels i 0 ≡ 1 + i = λ i h. get_or-range_with_len 1 62 i 0 h in
    let last : 1 + (k - 1) ≡ k = omega arith in
    let found : position_or_len (holds_all w) levels ≡ k - 1 =
    position_or_len_is (holds_all w) levels (k - 1) 0 (omega arith)
    (λ j h. ap (holds_all w) (at j (omega arith)) ∙ fails_below w (1 + j) k least (omega arith) (omega arith))
    (λ h. ap (holds_all w) (at (k - 1) (omega arith) ∙ last) ∙ fits-holds w k least.holds) in
    least_level-is w ∙ ap (λ n. 1 + n) found ∙ last

rows_of-is : (w : World) → rows_of w ≡ written (completed (least_level w) (square_at w (least_level w) (edge_of (least_level w)) (edge_of (least_level w))))
unfolding rows_of
rows_of-is w = refl

-- the rows of a world are its rows
pub rows_of-squares : (w : World) (rows : List SquareRow) → AreSquaresOf w rows → rows_of w ≡ rows
rows_of-squares w rows are =
    let canonical = are.canonical in
    let valid = canonical.valid in
    let k = root_level rows in
    let root = rooted rows valid in
    let least : IsLeastLevel k w = subst (IsLeastLevel k) are.world canonical.least in
    let level : least_level w ≡ k = least_level-least w k least root.low root.high in
    grind (arith, square_at, root-square_at, rows_of-is)

-- a root of the greatest level holds the range of planes
range-fits : (w : World) → HasMargin 0 w → Fits 62 w
range-fits w margin x y alive = grind (arith, ints)

-- a level that is least, and that rows may have
record IsGoodLevel (k : ℕ) (w : World) : Type 0 where
  least : IsLeastLevel k w
  low : 1 ≤ k
  high : k ≤ 62

-- the least level is there
least_level-good : (w : World) → HasMargin 0 w → IsGoodLevel (least_level w) w
least_level-good w margin =
    let levels = range_with_len 1 62 in
    let p = holds_all w in
    let n = position_or_len p levels in
    let at : (i : ℕ) → i < 62 → get_or levels i 0 ≡ 1 + i = λ i h. get_or-range_with_len 1 62 i 0 h in
    let last : p (get_or levels 61 0) ≡ true = ap p (at 61 (omega arith)) ∙ fits-holds w 62 (range-fits w margin) in
    let not_before : (j : ℕ) → j < n → p (get_or levels j 0) ≡ false = λ j h. fails_before_first p levels j 0 h in
    let within : n ≤ 61 = elim (cases_lt 61 n) [ inl after ↦ (let no = not_before 61 after in absurd (cc)) | inr le ↦ le ] in
    let here : p (get_or levels n 0) ≡ true = passes_at_first p levels 0 (omega arith) in
    let is : least_level w ≡ 1 + n = least_level-is w in
    let fits : Fits (1 + n) w = holds-fits w (1 + n) (ap p (sym (at n (omega arith))) ∙ here) in
    record {
      least = subst (λ k. IsLeastLevel k w) (sym is) (record {
        holds = fits;
        least = λ j low fits_j.
            elim (cases_lt j (1 + n)) [
              | inl below ↦
                  let less : 1 + (j - 1) ≡ j = omega arith in
                  let yes : p (get_or levels (j - 1) 0) ≡ true = ap p (at (j - 1) (omega arith) ∙ less) ∙ fits-holds w j fits_j in
                  let no = not_before (j - 1) (omega arith) in
                  absurd (cc)
              | inr le ↦ le
            ];
      });
      low = omega (arith, is);
      high = omega (arith, is, within);
    }

squares-by : (w : World) (k : ℕ) (rows : List SquareRow) → IsLeastLevel k w → IsListed k (square_at w k (edge_of k) (edge_of k)) rows → AllBelow 256 w → AreSquaresOf w (written rows)
squares-by w k rows least own small =
    let world : world_of_rows rows ≡ w = own.world ∙ root-world w k least.holds small in
    let kept : AreKept rows = grind (arith, kept-none) in
    squares-written rows w kept world

-- the rows of a world stand for it
pub squares-rows_of : WorldsHaveRows
squares-rows_of w margin small =
    let good = least_level-good w margin in
    let k = least_level w - 1 in
    let up : suc k ≡ least_level w = omega arith in
    let least : IsLeastLevel (suc k) w = subst (λ j. IsLeastLevel j w) (sym up) good.least in
    let high : suc k ≤ 62 = omega (arith, good.high, up) in
    let t = square_at w (suc k) (edge_of (suc k)) (edge_of (suc k)) in
    let is : IsSquare (suc k) t = square_at-IsSquare w (suc k) (edge_of (suc k)) (edge_of (suc k)) small in
    let rows : rows_of w ≡ written (completed (suc k) t) = rows_of-is w ∙ ap (λ j. written (completed j (square_at w j (edge_of j) (edge_of j)))) (sym up) in
    subst (AreSquaresOf w) (sym rows) (squares-by w (suc k) (completed (suc k) t) least (listed k t is high) small)

-- those of the empty world
pub rows_of-blank : EmptyWorldHasOneRow
rows_of-blank = rows_of-squares blank (written []) (squares-written [] blank kept-none world-none)
