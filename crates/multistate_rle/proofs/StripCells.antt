-- The strips that tokens draw, as cells: those that the tokens were made of.
use Rattle.multistate_rle.proofs.Names.{All-from_recursion, AllByRecursion, CellSet, IsInside, List, Origin, Place, Strip, Token, [], ap, ap₂, arith, behind, cell_at, cells_of_strip, differs, distance, flat_map, ints, is_in_range, joined, length}
use Rattle.multistate_rle.proofs.Names.{length-append, lies_inside, list_all, live_count, map, nat_tests, neg_ℤ, pos, range_with_len, refl, strips_from, subst, suc, sum_by-cons, tokens, true, way, zeros, ℕ, ℤ, ⊎_elim, ◌++◌, ◌+ℤ◌, ◌+◌, ◌-◌}
use Rattle.multistate_rle.proofs.Names.{◌<ℤ◌, ◌<◌, ◌^◌, ◌∙◌, ◌∷◌, ◌≡◌, ◌≤ℤ◌, ◌⊎◌}
use Rattle.std.proofs.lemmas.List.FromFn.{fill_by_all, get_or-map-range_with_len, length-map-range_with_len}
use Rattle.multistate_rle.specs.declared.token.Token.TheVariants as token
use Rattle.multistate_rle.proofs.BodyReads.{IsWritable, runs_of}
use Rattle.multistate_rle.proofs.Runs.{way_rows}
use Rattle.multistate_rle.proofs.Strips.{same_cell}

-- a listed cell, as it is laid
abbrev pub set_of : Place × ℕ → CellSet
set_of e = record { x = e.0.1; y = e.0.0; state = e.1 }

-- the cells that tokens draw, from this row and column on
abbrev pub drawn : Origin → ℕ → ℕ → List Token → List CellSet
drawn origin row column ts = flat_map (cells_of_strip origin) (strips_from row column (runs_of ts))

-- the cell in this row and column
abbrev live_cell : Origin → ℕ → ℕ → ℕ → CellSet
live_cell origin row column s = record { x = origin.x +ℤ pos column; y = origin.y +ℤ pos row; state = s }

-- the first cell of a strip, and those behind it
cells_of_strip-first : (origin : Origin) (row column n m s : ℕ) → n ≡ suc m
    → cells_of_strip origin (record { row = row; column = column; count = n; state = s })
    ≡ live_cell origin row column s ∷ cells_of_strip origin (record { row = row; column = column + 1; count = m; state = s })
cells_of_strip-first origin row column n m s is =
    let whole : Strip = record { row = row; column = column; count = n; state = s } in
    let later : Strip = record { row = row; column = column + 1; count = m; state = s } in
    let same = λ (k : ℕ). same_cell (cell_at origin whole (1 + k)) (cell_at origin later k) (omega (arith, ints)) refl refl in
    ap (λ k. map (cell_at origin whole) (range_with_len 0 k)) is
    ∙ ap₂ (λ c cs. c ∷ cs) (same_cell (cell_at origin whole 0) (live_cell origin row column s) (omega (arith, ints)) refl refl)
    (fill_by_all (cell_at origin later) (map (cell_at origin whole) (range_with_len 1 m)) m (cell_at origin whole 0) (length-map-range_with_len (cell_at origin whole) 1 m)
    (λ k less. get_or-map-range_with_len (cell_at origin whole) 1 m k (1 + k) (cell_at origin whole 0) less refl ∙ same k))

-- a run that isn't of state 0
drawn-run : (origin : Origin) (row column n s : ℕ) (ts : List Token) → 0 < s
    → drawn origin row column (token.Run n s ∷ ts) ≡ cells_of_strip origin (record { row = row; column = column; count = n; state = s }) ++ drawn origin row (column + n) ts
drawn-run origin row column n s ts live = rw (differs s 0 (λ e. omega arith)) refl

-- a cell that is joined with what follows
drawn-joined : (origin : Origin) (row column s : ℕ) (ts : List Token) → 0 < s
    → drawn origin row column (joined 1 s ts) ≡ live_cell origin row column s ∷ drawn origin row (column + 1) ts
drawn-joined origin row column s ts live = grind (arith, nat_tests, drawn-run, cells_of_strip-first)

drawn-zeros : (origin : Origin) (row column gap : ℕ) (ts : List Token) → drawn origin row column (zeros gap ++ ts) ≡ drawn origin row (column + gap) ts
drawn-zeros origin row column gap ts = grind (arith)

-- `to` comes behind `from` in the rows from the left edge on, or is it
abbrev pub IsAhead : ℤ → Place → Place → Type 0
IsAhead left from to = (left ≤ℤ to.1) × ((from.0 <ℤ to.0) ⊎ ((from.0 ≡ to.0) × (from.1 ≤ℤ to.1)))

-- cells in order, from a place on
abbrev pub AreAhead : ℤ → Place → List (Place × ℕ) → Type 0
AreAhead left from [] = Unit {0}
AreAhead left from (c ∷ cs) = IsAhead left from c.0 × ((0 < c.1) × AreAhead left (behind c.0) cs)

distance-to : (a b : ℤ) → a ≤ℤ b → (a +ℤ pos (distance a b)) ≡ b
distance-to a b h = grind (arith, ints)

-- what follows a way is drawn from the place on to which it leads
drawn-way : (origin : Origin) (row column : ℕ) (from to : Place) (ts : List Token) (cells : List CellSet) → (origin.y +ℤ pos row) ≡ from.0 → (origin.x +ℤ pos column) ≡ from.1
    → IsAhead origin.x from to → ((r c : ℕ) → (origin.y +ℤ pos r) ≡ to.0 → (origin.x +ℤ pos c) ≡ to.1 → drawn origin r c ts ≡ cells)
    → drawn origin row column (way origin.x from to ++ ts) ≡ cells
drawn-way origin row column from to ts cells y x ahead arrive =
    let rows : ℕ = distance from.0 to.0 in
    let down = distance-to from.0 to.0 in
    let on = distance-to origin.x to.1 ahead.0 in
    let here = distance-to from.1 to.1 in
    ⊎_elim
    (λ (below : from.0 <ℤ to.0).
    let far = arrive (row + rows) (0 + distance origin.x to.1) (omega (arith, ints, down, y)) (omega (arith, ints, on)) in
    grind (arith, ints, way_rows, drawn-zeros, down, far))
    (λ (same : (from.0 ≡ to.0) × (from.1 ≤ℤ to.1)).
    let far = arrive row (column + distance from.1 to.1) (y ∙ same.0) (omega (arith, ints, here, x)) in
    grind (arith, ints, drawn-zeros, down, far))
    ahead.1

-- the cells that tokens draw are those of which they are the tokens
pub drawn-tokens : (origin : Origin) (row column : ℕ) (from : Place) (cs : List (Place × ℕ)) → (origin.y +ℤ pos row) ≡ from.0 → (origin.x +ℤ pos column) ≡ from.1 → AreAhead origin.x from cs
    → drawn origin row column (tokens origin.x from cs) ≡ map set_of cs
drawn-tokens origin row column from [] y x h = refl
drawn-tokens origin row column from (c ∷ cs) y x h =
    let later : List Token = tokens origin.x (behind c.0) cs in
    drawn-way origin row column from c.0 (joined 1 c.1 later) (set_of c ∷ map set_of cs) y x h.0 (λ r k at_y at_x.
    drawn-joined origin r k c.1 later h.1.0
    ∙ ap₂ (λ d ds. d ∷ ds) (same_cell (live_cell origin r k c.1) (set_of c) at_x at_y refl)
    (drawn-tokens origin r (k + 1) (behind c.0) cs at_y (omega (arith, ints, at_x)) h.1.1))

-- so many cells are counted as are drawn
pub live_count-drawn : (origin : Origin) (strips : List Strip) → live_count strips ≡ length (flat_map (cells_of_strip origin) strips)
live_count-drawn origin [] = refl
live_count-drawn origin (strip ∷ strips) =
    omega (
      arith,
      sum_by-cons (λ (s : Strip). s.count) strip strips,
      length-append (cells_of_strip origin strip) (flat_map (cells_of_strip origin) strips),
      length-map-range_with_len (cell_at origin strip) 0 strip.count,
      live_count-drawn origin strips,
    )

all_parts : {X : Type 0} (P : X → Type 0) (xs ys : List X) → AllByRecursion P (xs ++ ys) → AllByRecursion P xs × AllByRecursion P ys
all_parts P [] ys h = (tt, h)
all_parts P (x ∷ xs) ys h = let rest = all_parts P xs ys h.1 in ((h.0, rest.0), rest.1)

one_of_range : {X : Type 0} (P : X → Type 0) (f : ℕ → X) (n k : ℕ) → k < n → AllByRecursion P (map f (range_with_len 0 n)) → P (f k)
one_of_range P f n k h all =
    subst P (get_or-map-range_with_len f 0 n k k (f k) h (omega arith))
    (All-from_recursion P (map f (range_with_len 0 n)) all k (f k) (omega (arith, length-map-range_with_len f 0 n)))

in_range : (z : ℤ) → neg_ℤ (pos (2 ^ 61)) ≤ℤ z → z <ℤ pos (2 ^ 61) → is_in_range z ≡ true
in_range z low high = grind (arith, ints)

-- a cell in the range of planes
abbrev pub IsLaidInside : CellSet → Type 0
IsLaidInside c = IsInside 0 c.x c.y

strip-inside : (origin : Origin) (strip : Strip) → 0 < strip.count → AllByRecursion IsLaidInside (cells_of_strip origin strip) → lies_inside origin strip ≡ true
strip-inside origin strip some h =
    let first = one_of_range IsLaidInside (cell_at origin strip) strip.count 0 some h in
    let last = one_of_range IsLaidInside (cell_at origin strip) strip.count (strip.count - 1) (omega arith) h in
    grind (arith, ints, in_range, first, last)

-- strips of cells in the range of planes lie in it
pub drawn-inside : (most states row column : ℕ) (origin : Origin) (ts : List Token) → AllByRecursion (IsWritable most states) ts
    → AllByRecursion IsLaidInside (drawn origin row column ts) → list_all (lies_inside origin) (strips_from row column (runs_of ts)) ≡ true
drawn-inside most states row column origin [] h inside = refl
drawn-inside most states row column origin (token.End ∷ ts) h inside = refl
drawn-inside most states row column origin (token.RowEnds n ∷ ts) h inside = drawn-inside most states (row + n) 0 origin ts h.1 inside
drawn-inside most states row column origin (token.Run n s ∷ ts) h inside =
    let strip : Strip = record { row = row; column = column; count = n; state = s } in
    let parts = all_parts IsLaidInside (cells_of_strip origin strip) (flat_map (cells_of_strip origin) (strips_from row (column + n) (runs_of ts))) in
    grind (arith, nat_tests, parts, strip-inside origin strip h.0.0, drawn-inside most states row (column + n) origin ts h.1)
