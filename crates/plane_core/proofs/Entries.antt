-- The live cells of a world in the order of their places.
use Rattle.plane_core.proofs.Names.{All, All-get_or, All-permutation, All-weaker, AllByRecursion, AreLiveWithin, Bool, Bounds, Cell, Holds, IsLiveWithin, IsPermutation, IsSortedByKey, Less, List, Option, Place, Some, World, [], ap, ap₂}
use Rattle.plane_core.proofs.Names.{arith, as_live, blank, by_place, cell, cell-blank, cell-put, cond, count_at, count_by, count_by-le-length, count_by_more_yes, entries-blank, false, get_or, get_or-map, is_eq, is_lt, length, length-map}
use Rattle.plane_core.proofs.Names.{live, live-entries, map, of_cell, ordering_reverse, place_cmp, place_of, places_total, pos, put, put-suc, recursion_from_All, refl, same_place, same_place-itself, same_world, state_at, subst, suc}
use Rattle.plane_core.proofs.Names.{sum_by-IsPermutation, sum_by-cons, sum_by-take-le, sym, true, unwrap_or, zero, ℕ, ℤ, ◌+◌, ◌-◌, ◌<◌, ◌∙◌, ◌∷◌, ◌≡◌, ◌≤◌}
use Rattle.std.proofs.lemmas.Map.Keys.{sorted_from_all_adjacent}
use Rattle.std.specs.List.Sorted.{IsStrictlySortedBy}
use Rattle.std.specs.Map.{keys_of, lookup}
use Rattle.std.specs.declared.cmp.Ordering.{Ordering}
use Rattle.std.specs.FinMap as map

-- the world in which each cell has the state of its first mention in the list
pub world_of : List (Place × ℕ) → World
world_of [] = blank
world_of (e ∷ es) = put (world_of es) e.0.1 e.0.0 e.1

-- the entry that a world has of a live cell, by its place and state
as_entry : Place × ℕ → Place × ℕ
as_entry e = (e.0, e.1 - 1)

unwrap_or-cond : (b : Bool) (s n : ℕ) (o : Option ℕ) → n ≡ unwrap_or o 0
    → cond b s n ≡ unwrap_or (cond b (Some s) o) 0
unwrap_or-cond b s n o h = grind (arith)

-- each state of that world
pub cell-world_of : (es : List (Place × ℕ)) (x y : ℤ) → cell (world_of es) x y ≡ state_at es (y, x)
unfolding world_of
cell-world_of [] x y = cell-blank x y
cell-world_of (e ∷ es) x y =
    cell-put (world_of es) e.0.1 e.0.0 e.1 x y
    ∙ unwrap_or-cond (same_place (y, x) e.0) e.1 _ (lookup (same_place (y, x)) es)
    (cell-world_of es x y)

put-first : (k : Place) (n : ℕ) (es : List (Place × ℕ))
    → AllByRecursion (λ q. place_cmp k q ≡ Less) (keys_of es)
    → map.Entries.put place_cmp k n (map as_entry es) ≡ (k, n) ∷ map as_entry es
unfolding as_entry
put-first k n [] h = refl
put-first k n (e ∷ es) h = grind (arith)

put-live : (w : World) (k : Place) (s : ℕ) → 0 < s → put w k.1 k.0 s ≡ map.insert w k (s - 1)
put-live w k zero h = absurd (omega (arith, h))
put-live w k (suc n) h = put-suc w k.1 k.0 n ∙ ap (map.insert w k) (omega arith)

entries-world_of : (es : List (Place × ℕ)) → IsStrictlySortedBy place_cmp (keys_of es) → AllByRecursion (λ (e : Place × ℕ). 0 < e.1) es
    → map.entries (world_of es) ≡ map as_entry es
unfolding world_of IsStrictlySortedBy as_entry
entries-world_of [] o h = entries-blank
entries-world_of (e ∷ es) o h =
    ap map.entries (put-live (world_of es) e.0 e.1 h.0)
    ∙ map.entries-insert places_total (world_of es) e.0 (e.1 - 1)
    ∙ ap (map.Entries.put place_cmp e.0 (e.1 - 1)) (entries-world_of es o.1 h.1)
    ∙ put-first e.0 (e.1 - 1) es o.0

one_more : (es : List (Place × ℕ)) → AllByRecursion (λ (e : Place × ℕ). 0 < e.1) es → map as_live (map as_entry es) ≡ es
unfolding as_entry
one_more [] h = refl
one_more (e ∷ es) h =
    ap₂ (λ (s : ℕ) (fs : List (Place × ℕ)). (e.0, s) ∷ fs) (let k : 0 < e.1 = h.0 in omega arith)
    (one_more es h.1)

-- a list of live cells in order is the list of its world
pub live-world_of : (es : List (Place × ℕ)) → IsStrictlySortedBy place_cmp (keys_of es) → AllByRecursion (λ (e : Place × ℕ). 0 < e.1) es
    → live (world_of es) ≡ es
live-world_of es o h = grind (arith, live-entries, entries-world_of, one_more)

all_entries : (P : ℤ → ℤ → ℕ → Type 0) (cells : List Cell) → AllByRecursion (λ (c : Cell). P c.x c.y c.state) cells → AllByRecursion (λ (e : Place × ℕ). P e.0.1 e.0.0 e.1) (map of_cell cells)
all_entries P [] h = tt
all_entries P (c ∷ cs) h = (h.0, all_entries P cs h.1)

keys_of-cells : (cells : List Cell) → keys_of (map of_cell cells) ≡ map place_of cells
keys_of-cells [] = refl
keys_of-cells (c ∷ cs) = ap (λ ps. place_of c ∷ ps) (keys_of-cells cs)

listed_first : (b : Bool) (s n : ℕ) (o : Option ℕ) → 0 < s → (0 < n → 0 < unwrap_or o 0) → 0 < cond b 1 0 + n → 0 < unwrap_or (cond b (Some s) o) 0
listed_first b s n o some more h = grind (arith)

-- a place at which a cell is counted has a state
listed : (x y : ℤ) (cells : List Cell) → AllByRecursion (λ (c : Cell). 0 < c.state) cells → 0 < count_at x y cells → 0 < state_at (map of_cell cells) (y, x)
listed x y [] some h = let none = count_by-le-length (λ (c : Cell). same_place (y, x) (c.y, c.x)) [] in absurd (omega (arith, h, none))
listed x y (c ∷ cs) some h =
    listed_first (same_place (y, x) (c.y, c.x)) c.state (count_at x y cs) _ some.0 (listed x y cs some.1)
    (subst (λ n. 0 < n) (sum_by-cons (λ (d : Cell). cond (same_place (y, x) (d.y, d.x)) 1 0) c cs) h)

-- neighbours in a list that pass a test are counted twice
counted_twice : (p : Cell → Bool) (cells : List Cell) (k : ℕ) (d : Cell) → k + 1 < length cells → p (get_or cells k d) ≡ true → p (get_or cells (k + 1) d) ≡ true → 2 ≤ count_by p cells
counted_twice p cells k d lt a b =
    let one = count_by_more_yes p cells k d (omega (arith, lt)) a in
    let two = count_by_more_yes p cells (k + 1) d lt b in
    let all = sum_by-take-le (λ (c : Cell). cond (p c) 1 0) cells (k + 1 + 1) in
    omega (arith, one, two, all)

earlier : (o : Ordering) → is_lt (ordering_reverse o) ≡ false → (is_eq o ≡ true → ⊥) → o ≡ Less
earlier o h other = grind (arith)

same_states : (n m : ℕ) → (0 < n → m ≡ n) → (0 < m → 0 < n) → n ≡ m
same_states n m f g = grind (arith)

no_cell : Cell
no_cell = record { x = pos 0; y = pos 0; state = 0 }

-- the live cells that lie in a box with all of them, each once, are those of the world if they are sorted
module _ (b : Bounds) (w : World) (found cells : List Cell) (holds : Holds b w) (are : AreLiveWithin b w found) (moved : IsPermutation found cells) where
  each : All (IsLiveWithin b w) cells
  each = All-permutation (IsLiveWithin b w) found cells moved are.each

  once : (x y : ℤ) → 0 < cell w x y → count_at x y cells ≡ 1
  once x y live = sum_by-IsPermutation (λ (c : Cell). cond (same_place (y, x) (c.y, c.x)) 1 0) found cells moved ∙ are.once x y (holds x y live) live

  some : AllByRecursion (λ (c : Cell). 0 < c.state) cells
  some = recursion_from_All (λ (c : Cell). 0 < c.state) cells (All-weaker (IsLiveWithin b w) (λ (c : Cell). 0 < c.state) (λ c h. h.live) cells each)

  shown : AllByRecursion (λ (c : Cell). cell w c.x c.y ≡ c.state) cells
  shown = recursion_from_All (λ (c : Cell). cell w c.x c.y ≡ c.state) cells (All-weaker (IsLiveWithin b w) (λ (c : Cell). cell w c.x c.y ≡ c.state) (λ c h. h.state) cells each)

  same_cells : (x y : ℤ) → state_at (map of_cell cells) (y, x) ≡ cell w x y
  same_cells x y =
      same_states (state_at (map of_cell cells) (y, x)) (cell w x y)
      (by_place (map of_cell cells) (λ x y s. cell w x y ≡ s) (all_entries (λ x y s. cell w x y ≡ s) cells shown) x y)
      (λ live. let one = once x y live in listed x y cells some (omega (arith, one)))

  module _ (sorted : IsSortedByKey place_of place_cmp cells) where
    ordered_at : (k : ℕ) → k + 1 < length cells → place_cmp (place_of (get_or cells k no_cell)) (place_of (get_or cells (k + 1) no_cell)) ≡ Less
    ordered_at k lt =
        let here : Cell = get_or cells k no_cell in
        let next : Cell = get_or cells (k + 1) no_cell in
        let is : IsLiveWithin b w here = All-get_or (IsLiveWithin b w) cells k no_cell (omega (arith, lt)) each in
        let other : same_place (place_of here) (place_of next) ≡ true → ⊥ = λ same.
        let two = counted_twice (λ (c : Cell). same_place (here.y, here.x) (c.y, c.x)) cells k no_cell lt (same_place-itself (here.y, here.x)) same in
        let one = once here.x here.y (subst (λ n. 0 < n) (sym is.state) is.live) in
        omega (arith, one, two) in
        earlier (place_cmp (place_of here) (place_of next)) (ap is_lt (sym (places_total.antisymm (place_of next) (place_of here))) ∙ sorted k no_cell (omega arith) lt) other

    ordered : IsStrictlySortedBy place_cmp (keys_of (map of_cell cells))
    ordered =
        subst (IsStrictlySortedBy place_cmp) (sym (keys_of-cells cells))
        (sorted_from_all_adjacent places_total (map place_of cells) (place_of no_cell) (λ k lt.
        let count = length-map cells place_of in
        let there : k + 1 < length cells = omega (arith, lt, count) in
        ap₂ place_cmp (get_or-map place_of cells k no_cell (place_of no_cell) (omega (arith, there))) (get_or-map place_of cells (k + 1) no_cell (place_of no_cell) there)
        ∙ ordered_at k there))

    pub in_order : map of_cell cells ≡ live w
    in_order =
        sym (live-world_of (map of_cell cells) ordered (all_entries (λ x y s. 0 < s) cells some))
        ∙ ap live (same_world (world_of (map of_cell cells)) w (λ x y. cell-world_of (map of_cell cells) x y ∙ same_cells x y))
