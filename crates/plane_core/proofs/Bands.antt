-- The quadrants of a band on the side of an edge, and how far its live cells lie from it.
use Rattle.plane_core.proofs.Names.{All-cons, All-contains, All-nil, AreFilled, AreKept, AreKids, AreRows, Bounds, Contains, Contains-append_cases, Contains-append_left, Contains-append_right}
use Rattle.plane_core.proofs.Names.{Contains-get_or, Contains-push, Contains-push_cases, HasLive, IsBand, IsBoundingBox, NamesLive, IsNumber, List, SquareRow, [], ap, ap₂, arith, blank, cases_lt}
use Rattle.plane_core.proofs.Names.{cell, cell_in, depth, east, edge_of, flat_map, four, get_or, if_live, inl, inr, ints, kid, edge_kids, length, nat_tests, nil_from_length, opposite, pos, refl}
use Rattle.plane_core.proofs.Names.{root_level, row_at, south, square_in, subst, suc, sym, take, take_all, world_of_rows, zero, ℕ, ℤ, ◌+ℤ◌, ◌+◌, ◌-◌, ◌<◌, ◌^◌, ◌∙◌, ◌∷◌, ◌≡◌, ◌≤◌, ◌⊎◌}
use Rattle.worlds.specs.Square.{empty_square}
use Rattle.plane_core.specs.declared.edges.Edge.{Edge}
use Rattle.plane_core.specs.declared.edges.Edge.TheVariants.{Left, Top, Right, Bottom}
use Rattle.plane_core.specs.Edges.{LiesAlong, IsLeastDepth}
use Rattle.plane_core.proofs.Parts.{IsSplit, east-le, south-le, quadrant-split, quadrant-cell}
use Rattle.plane_core.proofs.Shared.Cells.{cell_in-empty, cell_in-one, offsets}
use Rattle.plane_core.proofs.Shared.Centres.{walked-filled}
use Rattle.plane_core.proofs.Shared.Roots.{root-side, rooted, root-Fits, world-inside, world-none}
use Rattle.plane_core.proofs.Shared.Sound.{number-listed, square_in-number, square_in-none, square_in-state, number-kid}
use Rattle.plane_core.proofs.Shared.Tidy.{tidied}

-- what a piece has the whole has, and no more
in_pieces : (f : ℕ → List ℕ) (xs : List ℕ) (x y : ℕ) → Contains xs x → Contains (f x) y → Contains (flat_map f xs) y
in_pieces f [] x y h g = grind (arith)
in_pieces f (a ∷ xs) x y h g = let more = in_pieces f xs x y in grind (arith, Contains-append_left, Contains-append_right, Contains-append_cases)

from_pieces : (f : ℕ → List ℕ) (xs : List ℕ) (y : ℕ) → Contains (flat_map f xs) y → (x : ℕ) × Contains xs x × Contains (f x) y
from_pieces f [] y h = grind (arith)
from_pieces f (a ∷ xs) y h =
    elim (Contains-append_cases (f a) (flat_map f xs) y h) [
      | inl here ↦ (a, Contains-get_or (a ∷ xs) 0 a (omega arith), here)
      | inr there ↦ let r = from_pieces f xs y there in (r.0, Contains-append_right (a ∷ []) xs r.0 r.1, r.2)
    ]

pub kids_are : (rows : List SquareRow) (e : Edge) (band found kids : List ℕ) (i : ℕ) → length band ≤ i → found ≡ flat_map (λ m. edge_kids e (row_at rows m)) (take i band)
    → ((n : ℕ) → Contains found n → Contains kids n) → ((n : ℕ) → Contains kids n → Contains found n) → AreKids rows e band kids
kids_are rows e band found kids i all is keeps adds_none =
    let f = λ (m : ℕ). edge_kids e (row_at rows m) in
    let whole : found ≡ flat_map f band = is ∙ ap (flat_map f) (take_all i band all) in
    record {
      all = λ m n there h. keeps n (subst (λ xs. Contains xs n) (sym whole) (in_pieces f band m n there h));
      only = λ n h. from_pieces f band n (subst (λ xs. Contains xs n) whole (adds_none n h));
    }

if_live_from : (k n : ℕ) → Contains (if_live k) n → (0 < n) × (k ≡ n)
if_live_from k n h = grind (arith, nat_tests, Contains-push_cases)

kid_in : (e : Edge) (row : SquareRow) (q : ℕ) → LiesAlong e q → 0 < kid row q → Contains (edge_kids e row) (kid row q)
kid_in e row q side live = grind (arith, nat_tests, Contains-push, Contains-append_left, Contains-append_right)

kid_from : (e : Edge) (row : SquareRow) (n : ℕ) → Contains (edge_kids e row) n → (q : ℕ) × LiesAlong e q × ((0 < n) × (kid row q ≡ n))
kid_from e row n h = grind (arith, Contains-append_cases, if_live_from)

-- each quadrant lies on the side of the edge, or of the opposite one
sides : (e : Edge) (q : ℕ) → q < 4 → LiesAlong e q ⊎ LiesAlong (opposite e) q
sides e q few = grind (arith)

below_four : (e : Edge) (q : ℕ) → LiesAlong e q → q < 4
below_four e q side = grind (arith)

module _ (n h x y : ℕ) (twice : n ≡ h + h) (s : IsSplit h x y) (e : Edge) where
  depth_near : LiesAlong e s.q → depth e n x y ≡ depth e h s.i s.j
  depth_near side = grind (arith)

  depth_far : LiesAlong (opposite e) s.q → depth e n x y ≡ h + depth e h s.i s.j
  depth_far side = grind (arith)

reach_small : (rows : List SquareRow) (e : Edge) (k : ℕ) (band : List ℕ) (d : ℕ) → IsLeastDepth rows e k band d → d < 2 ^ k
reach_small rows e k band d r = grind (arith)

kid_cell : (rows : List SquareRow) (k n q i j : ℕ) → 1 ≤ k → 0 < n → q < 4 → i < 2 ^ (k - 1) → j < 2 ^ (k - 1)
    → cell_in k (square_in rows k n) (east (2 ^ (k - 1)) q + i) (south (2 ^ (k - 1)) q + j) ≡ cell_in (k - 1) (square_in rows (k - 1) (kid (row_at rows n) q)) i j
kid_cell rows k n q i j some live few hi hj =
    let at = square_in-number rows (k - 1) n live in
    let cells = quadrant-cell (k - 1) q i j (λ q. square_in rows (k - 1) (kid (row_at rows n) q)) few hi hj in
    grind (arith)

none_cell : (rows : List SquareRow) (k n i j : ℕ) → 0 < cell_in k (square_in rows k n) i j → 0 < n
none_cell rows k zero i j live = grind (arith, square_in-none, cell_in-empty)
none_cell rows k (suc n) i j live = omega arith

pub reach_zero : (rows : List SquareRow) (e : Edge) (k : ℕ) (band : List ℕ) → k ≡ 0 → IsBand rows k band → IsLeastDepth rows e k band 0
reach_zero rows e k band is b =
    let n = get_or band 0 0 in
    let one : 2 ^ k ≡ 1 = ap (λ k. 2 ^ k) is in
    let cell : cell_in k (square_in rows k n) 0 0 ≡ n = grind (arith, square_in-state, cell_in-one) in
    let live : HasLive rows k band 0 0 = record { n = n; there = Contains-get_or band 0 0 b.some; live = subst (λ n. 0 < n) (sym cell) (b.each 0 0 b.some).0 } in
    record { least = λ i j hi hj h. omega arith; touched = (0, 0, omega arith, omega arith, live, grind (arith)) }

module _ (rows : List SquareRow) (e : Edge) (k : ℕ) (band kids : List ℕ) (some : 1 ≤ k) (is : IsBand rows k band) (are : AreKids rows e band kids) where
  -- the live cells of kids, by those of the band
  down : (x y : ℕ) (s : IsSplit (2 ^ (k - 1)) x y) → LiesAlong e s.q → HasLive rows k band x y → HasLive rows (k - 1) kids s.i s.j
  down x y s side h =
      let cell = kid_cell rows k h.n s.q s.i s.j some (All-contains (NamesLive rows k) band h.n is.each h.there).0 s.few s.hi s.hj in
      let live = subst (λ n. 0 < n) (ap₂ (cell_in k (square_in rows k h.n)) s.at_x s.at_y ∙ cell) h.live in
      record { n = kid (row_at rows h.n) s.q; there = are.all h.n _ h.there (kid_in e (row_at rows h.n) s.q side (none_cell rows (k - 1) _ s.i s.j live)); live = live }

  up : (i j : ℕ) → i < 2 ^ (k - 1) → j < 2 ^ (k - 1) → HasLive rows (k - 1) kids i j → (q : ℕ) × LiesAlong e q × HasLive rows k band (east (2 ^ (k - 1)) q + i) (south (2 ^ (k - 1)) q + j)
  up i j hi hj h =
      let a = are.only h.n h.there in
      let b = kid_from e (row_at rows a.0) h.n a.2 in
      let cell = kid_cell rows k a.0 b.0 i j some (All-contains (NamesLive rows k) band a.0 is.each a.1).0 (below_four e b.0 b.1) hi hj in
      (b.0, b.1, record { n = a.0; there = a.1; live = subst (λ n. 0 < n) (sym (cell ∙ ap (λ n. cell_in (k - 1) (square_in rows (k - 1) n) i j) b.2.1)) h.live })

  -- kids are a band
  pub kids_band : AreRows rows → 0 < length kids → IsBand rows (k - 1) kids
  kids_band valid more = record {
    some = more;
    each = λ i d lt.
        let a = are.only (get_or kids i d) (Contains-get_or kids i d lt) in
        let b = kid_from e (row_at rows a.0) (get_or kids i d) a.2 in
        grind (arith, number-kid, All-contains, below_four);
  }

  -- no kid is there
  no_kid : length kids ≡ 0 → (m q : ℕ) → Contains band m → LiesAlong e q → kid (row_at rows m) q ≡ 0
  no_kid none m q there side = let has = are.all m (kid (row_at rows m) q) there in grind (arith, kid_in, cases_lt)

-- the cell of a square at (i, j) in its q-th quadrant
abbrev split_at : (h q i j : ℕ) → q < 4 → i < h → j < h → IsSplit h (east h q + i) (south h q + j)
split_at h q i j few hi hj = record { q = q; i = i; j = j; few = few; at_x = refl; at_y = refl; hi = hi; hj = hj }

-- what the near kids have nearest to the edge the band has
pub reach_near : (rows : List SquareRow) (e : Edge) (k : ℕ) (band near : List ℕ) (d : ℕ) → 1 ≤ k → IsBand rows k band → AreKids rows e band near → IsLeastDepth rows e (k - 1) near d → IsLeastDepth rows e k band d
reach_near rows e k band near d some is are r =
    let h = 2 ^ (k - 1) in
    let twice = root-side k some in
    let small = reach_small rows e (k - 1) near d r in
    let t = r.touched in
    let o = up rows e k band near some is are t.0 t.1 t.2 t.3 t.4 in
    let a = east-le h o.0 in let b = south-le h o.0 in let hi = t.2 in let hj = t.3 in
    record {
      least = λ i j hi hj live. (let s = quadrant-split h i j (omega arith) (omega arith) in elim (sides e s.q s.few) [
        | inl side ↦ let at = depth_near (2 ^ k) h i j twice s e side in let le = r.least s.i s.j s.hi s.hj (down rows e k band near some is are i j s side live) in omega arith
        | inr side ↦ let at = depth_far (2 ^ k) h i j twice s e side in omega arith
      ]);
      touched = (_, _, omega arith, omega arith, o.2, depth_near (2 ^ k) h _ _ twice (split_at h o.0 t.0 t.1 (below_four e o.0 o.1) t.2 t.3) e o.1 ∙ t.5);
    }

-- where there are none, what the far ones have
pub reach_far : (rows : List SquareRow) (e : Edge) (k : ℕ) (band near far : List ℕ) (d : ℕ) → 1 ≤ k → IsBand rows k band → AreKids rows e band near → length near ≡ 0 → AreKids rows (opposite e) band far → IsLeastDepth rows e (k - 1) far d
    → IsLeastDepth rows e k band (2 ^ (k - 1) + d)
reach_far rows e k band near far d some is are none other r =
    let h = 2 ^ (k - 1) in
    let twice = root-side k some in
    let t = r.touched in
    let o = up rows (opposite e) k band far some is other t.0 t.1 t.2 t.3 t.4 in
    let a = east-le h o.0 in let b = south-le h o.0 in let hi = t.2 in let hj = t.3 in
    record {
      least = λ i j hi hj live. (let s = quadrant-split h i j (omega arith) (omega arith) in elim (sides e s.q s.few) [
        | inl side ↦ absurd (let lt = (down rows e k band near some is are i j s side live).there.1 in omega arith)
        | inr side ↦ let at = depth_far (2 ^ k) h i j twice s e side in let le = r.least s.i s.j s.hi s.hj (down rows (opposite e) k band far some is other i j s side live) in omega arith
      ]);
      touched = (_, _, omega arith, omega arith, o.2, depth_far (2 ^ k) h _ _ twice (split_at h o.0 t.0 t.1 (below_four (opposite e) o.0 o.1) t.2 t.3) e o.1 ∙ ap (λ n. h + n) t.5);
    }

empty_four : (k : ℕ) → four (empty_square k) (empty_square k) (empty_square k) (empty_square k) ≡ empty_square (suc k)
unfolding empty_square
empty_four k = refl

none_live : (rows : List SquareRow) (k n : ℕ) → AreFilled rows → 1 ≤ k → 0 < n → IsNumber rows k n → ((q : ℕ) → q < 4 → kid (row_at rows n) q ≡ 0) → ⊥
none_live rows k n filled some live is none =
    let square = square_in-number rows (k - 1) n live in
    let empty = empty_four (k - 1) in
    let part = square_in-none rows (k - 1) in
    let zero = filled.none_empty k n is in
    grind (arith)

-- where there are none near the edge, there are some elsewhere
pub some_far : (rows : List SquareRow) (e : Edge) (k : ℕ) (band near far : List ℕ) → AreFilled rows → 1 ≤ k → IsBand rows k band → AreKids rows e band near → length near ≡ 0 → AreKids rows (opposite e) band far → 0 < length far
some_far rows e k band near far filled some is are none other =
    elim (cases_lt 0 (length far)) [
      | inl more ↦ more
      | inr less ↦
          let there = Contains-get_or band 0 0 is.some in
          let full = is.each 0 0 is.some in
          absurd (none_live rows k (get_or band 0 0) filled some full.0 full.1 (λ q few. elim (sides e q few) [
            | inl side ↦ no_kid rows e k band near some is are none _ q there side
            | inr side ↦ no_kid rows (opposite e) k band far some is other (omega arith) _ q there side
          ]))
    ]

pub band_row : (rows : List SquareRow) (k : ℕ) (band : List ℕ) (i : ℕ) → 1 ≤ k → IsBand rows k band → i < length band → get_or band i 0 - 1 < length rows
band_row rows k band i some is lt = grind (arith, number-listed)

-- kept rows have none of an empty square
pub kept_filled : (rows : List SquareRow) → AreKept rows → AreFilled rows
kept_filled rows kept = walked-filled rows (tidied rows rows kept.valid kept.walked).walked

pub root_band : (rows : List SquareRow) → AreRows rows → 0 < length rows → IsBand rows (root_level rows) (length rows ∷ [])
root_band rows valid some = record { some = omega arith; each = All-cons (NamesLive rows (root_level rows)) _ [] (some, (rooted rows valid).number) (All-nil _) }

seen : (rows : List SquareRow) (x y : ℤ) (i j : ℕ) → AreRows rows → x ≡ edge_of (root_level rows) +ℤ pos i → y ≡ edge_of (root_level rows) +ℤ pos j → i < 2 ^ root_level rows → j < 2 ^ root_level rows
    → HasLive rows (root_level rows) (length rows ∷ []) i j → 0 < cell (world_of_rows rows) x y
seen rows x y i j valid ex ey hi hj h = grind (arith, world-inside, Contains-push_cases)

-- the box of a world, by how far its edges lie from those of the root
pub root_box : (rows : List SquareRow) (b : Bounds) (l t r u : ℕ) → AreRows rows → b.left ≡ edge_of (root_level rows) +ℤ pos l → b.top ≡ edge_of (root_level rows) +ℤ pos t
    → (b.right +ℤ pos r) +ℤ pos 1 ≡ pos (2 ^ (root_level rows - 1)) → (b.bottom +ℤ pos u) +ℤ pos 1 ≡ pos (2 ^ (root_level rows - 1))
    → IsLeastDepth rows Left (root_level rows) (length rows ∷ []) l → IsLeastDepth rows Top (root_level rows) (length rows ∷ []) t
    → IsLeastDepth rows Right (root_level rows) (length rows ∷ []) r → IsLeastDepth rows Bottom (root_level rows) (length rows ∷ []) u
    → IsBoundingBox b (world_of_rows rows)
root_box rows b l t r u valid el et er eu left top right bottom =
    let k = root_level rows in
    let twice = root-side k (rooted rows valid).low in
    let a = left.touched in let c = top.touched in let d = right.touched in let e = bottom.touched in
    let ea = a.5 in let ec = c.5 in let ed = d.5 in let ee = e.5 in let hd = d.2 in let he = e.3 in
    record {
      holds = λ x y live. (
          let at = offsets (2 ^ k) (edge_of k) (edge_of k) x y (root-Fits rows valid x y live) in
          let here : HasLive rows k (length rows ∷ []) at.i at.j = record { n = length rows; there = Contains-push [] (length rows); live = subst (λ n. 0 < n) (world-inside rows x y at.i at.j valid at.ex at.ey at.hi at.hj) live } in
          let i = at.ex in let j = at.ey in let hi = at.hi in let hj = at.hj in
          let dl = left.least at.i at.j hi hj here in let dt = top.least at.i at.j hi hj here in let dr = right.least at.i at.j hi hj here in let du = bottom.least at.i at.j hi hj here in
          record { left = omega (arith, ints); right = omega (arith, ints); top = omega (arith, ints); bottom = omega (arith, ints) });
      touched_left = (edge_of k +ℤ pos a.1, seen rows b.left _ a.0 a.1 valid (omega (arith, ints)) refl a.2 a.3 a.4);
      touched_right = (edge_of k +ℤ pos d.1, seen rows b.right _ d.0 d.1 valid (omega (arith, ints)) refl d.2 d.3 d.4);
      touched_top = (edge_of k +ℤ pos c.0, seen rows _ b.top c.0 c.1 valid refl (omega (arith, ints)) c.2 c.3 c.4);
      touched_bottom = (edge_of k +ℤ pos e.0, seen rows _ b.bottom e.0 e.1 valid refl (omega (arith, ints)) e.2 e.3 e.4);
    }

pub none_blank : (rows : List SquareRow) → length rows ≡ 0 → world_of_rows rows ≡ blank
none_blank rows none = ap world_of_rows (nil_from_length rows none) ∙ world-none

pub ruleset of_root = (kept_filled, root_band)

pub ruleset of_world = (root_box, none_blank)
