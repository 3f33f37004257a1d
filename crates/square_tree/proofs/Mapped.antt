-- What a change of a quadtree does to the map that contracts see.
use Rattle.square_tree.proofs.Names.{Cells, HasLevel, IsLaid, IsPartlyLaid, IsPartlyOverlaid, IsTreeOf, None, Place, Quadtree, Some, ap, ap₂, arith, at, at_from, cells_of_tree, cond, entries, false, find, inl, inr, ints, keep, least, nat_tests}
use Rattle.square_tree.proofs.Names.{negsuc, option_or, overlaid, place_cmp, pos, reach, refl, same_place, sym, true, ℕ, ℤ, ◌++◌, ◌+ℤ◌, ◌-ℤ◌, ◌-◌, ◌<ℤ◌, ◌<◌, ◌∙◌, ◌≡◌, ◌≤◌, ◌⊎◌}
use Rattle.std.specs.FinMap as finite
use Rattle.square_tree.specs.Change.{IsSet}
use Rattle.square_tree.specs.Entries.{states_of}
use Rattle.square_tree.proofs.Shown.{places_total, places_exact, same_is, is_same, find-append, find_west, find_north, find_at}

-- the state of the cell in column u and row v
pub get_at : (l : ℕ) (t : Quadtree) (x y : ℤ) (u v : ℕ) → HasLevel l t → x ≡ (least l +ℤ pos u) → y ≡ (least l +ℤ pos v) → finite.get (states_of l t) (y, x) ≡ at t l u v
unfolding states_of
get_at l t x y u v h p q =
    finite.get-from_entries places_total (entries t l (least l) (least l)) (y, x)
    ∙ ap₂ (λ b a. find place_cmp (b, a) (entries t l (least l) (least l))) q p
    ∙ find_at t l (least l) (least l) u v h

-- nothing is said of places to the west of the square
pub get_west : (l : ℕ) (t : Quadtree) (x y : ℤ) → x <ℤ least l → finite.get (states_of l t) (y, x) ≡ None
unfolding states_of
get_west l t x y p = finite.get-from_entries places_total (entries t l (least l) (least l)) (y, x) ∙ find_west t l (least l) (least l) x y p

-- nor to its north
pub get_north : (l : ℕ) (t : Quadtree) (x y : ℤ) → y <ℤ least l → finite.get (states_of l t) (y, x) ≡ None
unfolding states_of
get_north l t x y p = finite.get-from_entries places_total (entries t l (least l) (least l)) (y, x) ∙ find_north t l (least l) (least l) x y p

-- a quadtree says what contracts see of it
pub tree_of : (l : ℕ) (t : Quadtree) → HasLevel l t → IsTreeOf (cells_of_tree l t) l t
tree_of l t h = record {
  level = h;
  says = λ x y. sym (get_at l t (least l +ℤ pos x) (least l +ℤ pos y) x y h refl refl);
  west = get_west l t;
  north = get_north l t;
}

-- a coordinate lies before another, or so far behind it
pub place_of : (w z : ℤ) → (z <ℤ w) ⊎ ((u : ℕ) × (z ≡ (w +ℤ pos u)))
place_of w z =
    elim (z -ℤ w) as (λ d. (z -ℤ w) ≡ d → (z <ℤ w) ⊎ ((u : ℕ) × (z ≡ (w +ℤ pos u)))) [
      | pos u ↦ λ e. inr (u, omega (arith, ints, e))
      | negsuc u ↦ λ e. inl (omega (arith, ints, e))
    ] refl

-- a map is that of a quadtree where it has what the quadtree says, and nothing to the west and the north
pub is_states_of : (l : ℕ) (t : Quadtree) (m : finite.FinMap place_cmp ℕ) → HasLevel l t
    → ((x y : ℤ) (u v : ℕ) → x ≡ (least l +ℤ pos u) → y ≡ (least l +ℤ pos v) → at t l u v ≡ finite.get m (y, x))
    → ((x y : ℤ) → x <ℤ least l → finite.get m (y, x) ≡ None)
    → ((x y : ℤ) → y <ℤ least l → finite.get m (y, x) ≡ None)
    → states_of l t ≡ m
is_states_of l t m h inside west north =
    finite.same_map places_total places_exact (states_of l t) m (λ q.
    elim (place_of (least l) q.1) [
      | inl left ↦ get_west l t q.1 q.0 left ∙ sym (west q.1 q.0 left)
      | inr a ↦ elim (place_of (least l) q.0) [
        | inl above ↦ get_north l t q.1 q.0 above ∙ sym (north q.1 q.0 above)
        | inr b ↦ get_at l t q.1 q.0 a.0 b.0 h a.1 b.1 ∙ inside q.1 q.0 a.0 b.0 a.1 b.1
      ]
    ])

-- a quadtree that says nothing
pub states_of-keep : (l : ℕ) → states_of l keep ≡ finite.empty
states_of-keep l = is_states_of l keep finite.empty tt (λ x y u v p q. sym (finite.get-empty place_cmp (y, x))) (λ x y p. finite.get-empty place_cmp (y, x)) (λ x y p. finite.get-empty place_cmp (y, x))

-- one that says one state more
pub states_of-set : {l u v s : ℕ} {old new : Quadtree} (x y : ℤ) → IsSet l u v s old new → HasLevel l old → x ≡ (least l +ℤ pos u) → y ≡ (least l +ℤ pos v) → states_of l new ≡ finite.insert (states_of l old) (y, x) s
states_of-set {l} {u} {v} {s} {old} {new} x y set h p q =
    let m = states_of l old in
    is_states_of l new (finite.insert m (y, x) s) set.level
    (λ x' y' u' v' p' q'.
    let old_says = get_at l old x' y' u' v' h p' q' in
    let is : same_place (y', x') (y, x) ≡ true → (u' ≡ u) × (v' ≡ v) = λ e.
    let same = same_is (y', x') (y, x) e in
    let row = ap (λ (k : Place). k.0) same in
    let column = ap (λ (k : Place). k.1) same in
    (omega (arith, ints, column, p, p'), omega (arith, ints, row, q, q')) in
    let so : u' ≡ u → v' ≡ v → same_place (y', x') (y, x) ≡ true = λ a b. is_same (y', x') (y, x) (cc (a, b, p, q, p', q')) in
    elim (same_place (y', x') (y, x)) as (λ b. same_place (y', x') (y, x) ≡ b → at new l u' v' ≡ cond b (Some s) (finite.get m (y', x'))) [
      | true ↦ λ e. let at_it = is e in grind (arith, at_it, set.here)
      | false ↦ λ e. grind (arith, e, so, set.others u' v', old_says)
    ] refl ∙ sym (finite.get-insert places_total m (y, x) s (y', x')))
    (λ x' y' left.
    let apart : (y', x') ≡ (y, x) → ⊥ = λ e. let f = ap (λ (k : Place). k.1) e in omega (arith, ints, left, p, f) in
    grind (arith, finite.get-insert places_total m (y, x) s (y', x'), get_west l old x' y' left, same_is (y', x') (y, x), apart))
    (λ x' y' above.
    let apart : (y', x') ≡ (y, x) → ⊥ = λ e. let f = ap (λ (k : Place). k.0) e in omega (arith, ints, above, q, f) in
    grind (arith, finite.get-insert places_total m (y, x) s (y', x'), get_north l old x' y' above, same_is (y', x') (y, x), apart))

-- what is said once one map is laid on another
pub get-overlaid : (c d : Cells) (p : Place) → finite.get (overlaid c d).states p ≡ option_or (finite.get c.states p) (finite.get d.states p)
get-overlaid c d p =
    finite.get-from_entries places_total (finite.entries c.states ++ finite.entries d.states) p
    ∙ find-append p (finite.entries c.states) (finite.entries d.states)
    ∙ ap₂ option_or (sym (finite.get-entries c.states p)) (sym (finite.get-entries d.states p))

-- what a smaller quadtree in the middle says of a cell
pub get_from : (l k : ℕ) (t : Quadtree) (x y : ℤ) (u v : ℕ) → HasLevel k t → reach k ≤ reach l → x ≡ (least l +ℤ pos u) → y ≡ (least l +ℤ pos v)
    → finite.get (states_of k t) (y, x) ≡ at_from (reach l - reach k) (reach l - reach k) k t u v
get_from l k t x y u v h less p q =
    let d = reach l - reach k in
    let west = λ (left : u < d). get_west k t x y (omega (arith, ints, p, less, left)) in
    let north = λ (above : v < d). get_north k t x y (omega (arith, ints, q, less, above)) in
    let inside = λ (right : d ≤ u) (below : d ≤ v). get_at k t x y (u - d) (v - d) h (omega (arith, ints, p, less, right)) (omega (arith, ints, q, less, below)) in
    grind (arith, nat_tests, west, north, inside)

-- a place to the west of a square is to the west of each smaller one
get_far_west : (l k : ℕ) (t : Quadtree) (x y : ℤ) → reach k ≤ reach l → x <ℤ least l → finite.get (states_of k t) (y, x) ≡ None
get_far_west l k t x y less p = get_west k t x y (omega (arith, ints, less, p))

get_far_north : (l k : ℕ) (t : Quadtree) (x y : ℤ) → reach k ≤ reach l → y <ℤ least l → finite.get (states_of k t) (y, x) ≡ None
get_far_north l k t x y less p = get_north k t x y (omega (arith, ints, less, p))

-- one on which a smaller one is laid in the middle
pub states_of-laid : {l k : ℕ} {other old new : Quadtree} → IsLaid l (reach l - reach k) (reach l - reach k) k other old new → HasLevel k other → HasLevel l old → reach k ≤ reach l
    → states_of l new ≡ (overlaid (cells_of_tree k other) (cells_of_tree l old)).states
states_of-laid {l} {k} {other} {old} {new} laid h j less =
    let c = cells_of_tree k other in
    let d = cells_of_tree l old in
    is_states_of l new (overlaid c d).states laid.level
    (λ x y u v p q. laid.says u v ∙ sym (get-overlaid c d (y, x) ∙ ap₂ option_or (get_from l k other x y u v h less p q) (get_at l old x y u v j p q)))
    (λ x y left. get-overlaid c d (y, x) ∙ ap₂ option_or (get_far_west l k other x y less left) (get_west l old x y left))
    (λ x y above. get-overlaid c d (y, x) ∙ ap₂ option_or (get_far_north l k other x y less above) (get_north l old x y above))

-- one on which a part of it is laid
pub partly_overlaid : {l k : ℕ} {other old new : Quadtree} → IsPartlyLaid l (reach l - reach k) (reach l - reach k) k other old new → HasLevel k other → HasLevel l old → reach k ≤ reach l
    → IsPartlyOverlaid (cells_of_tree k other) (cells_of_tree l old) (cells_of_tree l new)
partly_overlaid {l} {k} {other} {old} {new} partly h j less =
    let c = cells_of_tree k other in
    let d = cells_of_tree l old in
    record {
      level = refl;
      states = λ x y.
          elim (place_of (least l) x) [
            | inl left ↦ inl (get_west l new x y left ∙ sym (get_west l old x y left))
            | inr a ↦ elim (place_of (least l) y) [
              | inl above ↦ inl (get_north l new x y above ∙ sym (get_north l old x y above))
              | inr b ↦
                  let now = get_at l new x y a.0 b.0 partly.level a.1 b.1 in
                  let before = get_at l old x y a.0 b.0 j a.1 b.1 in
                  elim (partly.says a.0 b.0) [
                    | inl e ↦ inl (now ∙ e ∙ sym before)
                    | inr e ↦ inr (now ∙ e ∙ sym (get-overlaid c d (y, x) ∙ ap₂ option_or (get_from l k other x y a.0 b.0 h less a.1 b.1) before))
                  ]
            ]
          ];
    }
