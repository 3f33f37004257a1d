-- Sums over the live cells of a world, and what a square that is put there adds.
use Rattle.plane_core.proofs.Names.{IsIn, List, None, Option, Place, Some, Square, World, [], ap, arith, as_live, blank, cell, cell-get, cell-put, cond, entries-blank, four, ints, is_eq, is_live, length, live, live-entries, map, one}
use Rattle.plane_core.proofs.Names.{place_cmp, places_exact, places_total, population, pos, pow-suc, put, put-suc, put_square, refl, same_world, state_of, suc, sum_by, sum_by-cons, sym, tally, zero, zero-add, ℕ, ℤ, ◌*◌, ◌+ℤ◌, ◌+◌, ◌^◌, ◌∙◌}
use Rattle.plane_core.proofs.Names.{◌∷◌, ◌≡◌, ◌≤◌}
use Rattle.std.specs.declared.cmp.Ordering.TheVariants.{Less, Equal, Greater}
use Rattle.std.proofs.lemmas.Map.Views.{tells_apart}
use Rattle.std.specs.FinMap as finite
use Rattle.std.specs.FinMap.Entries.{by_order, find}
use Rattle.worlds.specs.Square.{empty_square, IsSquare}
use Rattle.plane_core.proofs.Shared.Cells.{double, put_square-outside, put_square-four, put_square-one, in_part}

-- the sum of f over the states of the live cells
abbrev pub total : (ℕ → ℕ) → World → ℕ
total f w = sum_by (λ (e : Place × ℕ). f e.1) (live w)

-- the sum of f over the states of entries
abbrev sums : (ℕ → ℕ) → List (Place × ℕ) → ℕ
sums f [] = 0
sums f (e ∷ es) = f (suc e.1) + sums f es

sums-live : (f : ℕ → ℕ) (es : List (Place × ℕ)) → sum_by (λ (e : Place × ℕ). f e.1) (map as_live es) ≡ sums f es
sums-live f [] = refl
sums-live f (e ∷ es) = sum_by-cons (λ (d : Place × ℕ). f d.1) (as_live e) (map as_live es) ∙ ap (λ n. f (suc e.1) + n) (sums-live f es)

total-sums : (f : ℕ → ℕ) (w : World) → total f w ≡ sums f (finite.entries w)
total-sums f w = ap (sum_by (λ (e : Place × ℕ). f e.1)) (live-entries w) ∙ sums-live f (finite.entries w)

regroup : (a b c n : ℕ) → n ≡ a + b → c + n ≡ a + (c + b)
regroup a b c n e = omega arith

sums-insert : (f : ℕ → ℕ) (k : Place) (n : ℕ) (es : List (Place × ℕ)) → find place_cmp k es ≡ None → sums f (finite.Entries.put place_cmp k n es) ≡ f (suc n) + sums f es
sums-insert f k n [] h = refl
sums-insert f k n (e ∷ es) h =
    elim (place_cmp k e.0) as (λ o. cond (is_eq o) (Some e.1) (find place_cmp k es) ≡ None → sums f (by_order o ((k, n) ∷ e ∷ es) ((e.0, n) ∷ es) (e ∷ finite.Entries.put place_cmp k n es)) ≡ f (suc n) + sums f (e ∷ es)) [
      | Less ↦ λ none. refl
      | Equal ↦ λ none. cc
      | Greater ↦ λ none. regroup (f (suc n)) (sums f es) (f (suc e.1)) _ (sums-insert f k n es none)
    ] h

no_entry : (o : Option ℕ) → state_of o ≡ 0 → o ≡ None
no_entry o h = grind (arith)

get-dead : (w : World) (x y : ℤ) → cell w x y ≡ 0 → finite.get w (y, x) ≡ None
get-dead w x y h = no_entry (finite.get w (y, x)) (sym (cell-get w x y) ∙ h)

-- a dead cell that is set to 0
put-zero : (w : World) (x y : ℤ) → cell w x y ≡ 0 → put w x y 0 ≡ w
put-zero w x y dead = grind (arith, same_world, cell-put, tells_apart, places_exact)

-- a dead cell is set
pub total-put : (f : ℕ → ℕ) (w : World) (x y : ℤ) (s : ℕ) → f 0 ≡ 0 → cell w x y ≡ 0 → total f (put w x y s) ≡ f s + total f w
total-put f w x y zero none dead = ap (total f) (put-zero w x y dead) ∙ sym (zero-add (total f w)) ∙ ap (λ n. n + total f w) (sym none)
total-put f w x y (suc n) none dead =
    ap (total f) (put-suc w x y n)
    ∙ total-sums f (finite.insert w (y, x) n)
    ∙ ap (sums f) (finite.entries-insert places_total w (y, x) n)
    ∙ sums-insert f (y, x) n (finite.entries w) (sym (finite.get-entries w (y, x)) ∙ get-dead w x y dead)
    ∙ ap (λ m. f (suc n) + m) (sym (total-sums f w))

pub total-blank : (f : ℕ → ℕ) → total f blank ≡ 0
total-blank f = total-sums f blank ∙ ap (sums f) entries-blank

-- no cell of w is live where a square is put
abbrev pub IsFree : ℕ → ℤ → ℤ → World → Type 0
IsFree k l t w = (x y : ℤ) → IsIn (2 ^ k) l t x y → cell w x y ≡ 0

-- two quadrants beside each other share no place
apart_x : (n : ℕ) (l t l' t' x y : ℤ) → l' ≡ l +ℤ pos n → IsIn n l t x y → IsIn n l' t' x y → ⊥
apart_x n l t l' t' x y e h g = let right = h.right in let left = g.left in omega (arith, ints)

apart_y : (n : ℕ) (l t l' t' x y : ℤ) → t' ≡ t +ℤ pos n → IsIn n l t x y → IsIn n l' t' x y → ⊥
apart_y n l t l' t' x y e h g = let bottom = h.bottom in let top = g.top in omega (arith, ints)

-- a free square has four free quadrants
pub record FreeParts (k : ℕ) (l t : ℤ) (w : World) : Type 0 where
  pub nw : IsFree k l t w
  pub ne : IsFree k (l +ℤ pos (2 ^ k)) t w
  pub sw : IsFree k l (t +ℤ pos (2 ^ k)) w
  pub se : IsFree k (l +ℤ pos (2 ^ k)) (t +ℤ pos (2 ^ k)) w

pub free_parts : (k : ℕ) (l t : ℤ) (w : World) → IsFree (suc k) l t w → FreeParts k l t w
free_parts k l t w free = grind (arith, ints, double, in_part)

-- what is free stays so while a square beside it is put
still_free : (k : ℕ) (s : Square) (l t l' t' : ℤ) (w : World) → IsSquare k s → ((x y : ℤ) → IsIn (2 ^ k) l' t' x y → IsIn (2 ^ k) l t x y → ⊥) → IsFree k l' t' w → IsFree k l' t' (put_square k s l t w)
still_free k s l t l' t' w is apart free x y h = put_square-outside k s l t w x y is (apart x y h) ∙ free x y h

-- the worlds on the way while the quadrants of a square are put, and that each finds its place free
pub record PutsFree (k : ℕ) (a b c : Square) (l t : ℤ) (w : World) : Type 0 where
  pub ne : IsFree k (l +ℤ pos (2 ^ k)) t (put_square k a l t w)
  pub sw : IsFree k l (t +ℤ pos (2 ^ k)) (put_square k b (l +ℤ pos (2 ^ k)) t (put_square k a l t w))
  pub se : IsFree k (l +ℤ pos (2 ^ k)) (t +ℤ pos (2 ^ k)) (put_square k c l (t +ℤ pos (2 ^ k)) (put_square k b (l +ℤ pos (2 ^ k)) t (put_square k a l t w)))

pub puts_free : (k : ℕ) (nw ne sw : Square) (l t : ℤ) (w : World) → IsSquare k nw → IsSquare k ne → IsSquare k sw → IsFree (suc k) l t w → PutsFree k nw ne sw l t w
puts_free k nw ne sw l t w is_nw is_ne is_sw free =
    let n = 2 ^ k in
    let r = l +ℤ pos n in
    let b = t +ℤ pos n in
    let parts = free_parts k l t w free in
    record {
      ne = still_free k nw l t r t w is_nw (λ x y h g. apart_x n l t r t x y refl g h) parts.ne;
      sw = grind (arith, still_free, apart_y);
      se =
          still_free k sw l b r b _ is_sw (λ x y h g. apart_x n l b r b x y refl g h)
          (still_free k ne r t r b _ is_ne (λ x y h g. apart_y n r t r b x y refl g h)
          (still_free k nw l t r b w is_nw (λ x y h g. apart_x n l t r b x y refl g h) parts.se));
    }

added : (a b c d e n m p q : ℕ) → n ≡ d + m → m ≡ c + p → p ≡ b + q → q ≡ a + e → n ≡ (a + b + c + d) + e
added a b c d e n m p q h i j k = omega arith

at_itself : (l t : ℤ) → IsIn (2 ^ 0) l t l t
at_itself l t = record { left = omega (arith, ints); right = omega (arith, ints); top = omega (arith, ints); bottom = omega (arith, ints) }

-- what a square adds where no cell was live
pub total-put_square : (f : ℕ → ℕ) (k : ℕ) (s : Square) (l t : ℤ) (w : World) → f 0 ≡ 0 → IsSquare k s → IsFree k l t w → total f (put_square k s l t w) ≡ tally f s + total f w
unfolding IsSquare
total-put_square f zero (one s) l t w none is free = ap (total f) (put_square-one 0 s l t w) ∙ total-put f w l t s none (free l t (at_itself l t))
total-put_square f (suc k) (one s) l t w none is free = absurd is
total-put_square f zero (four nw ne sw se) l t w none is free = absurd is
total-put_square f (suc k) (four nw ne sw se) l t w none is free =
    let parts = free_parts k l t w free in
    let on = puts_free k nw ne sw l t w is.0 is.1 is.2 free in
    ap (total f) (put_square-four k nw ne sw se l t w)
    ∙ added (tally f nw) (tally f ne) (tally f sw) (tally f se) (total f w) _ _ _ _
    (total-put_square f k se _ _ _ none is.3 on.se)
    (total-put_square f k sw _ _ _ none is.2 on.sw)
    (total-put_square f k ne _ _ _ none is.1 on.ne)
    (total-put_square f k nw l t w none is.0 parts.nw)

sums-live_ones : (es : List (Place × ℕ)) → length (map as_live es) ≡ sums is_live es
sums-live_ones [] = refl
sums-live_ones (e ∷ es) = omega (arith, sums-live_ones es)

-- the population is the sum of ones
pub population-total : (w : World) → population w ≡ total is_live w
population-total w = ap (λ (es : List (Place × ℕ)). length es) (live-entries w) ∙ sums-live_ones (finite.entries w) ∙ sym (total-sums is_live w)

pub population-blank : population blank ≡ 0
population-blank = population-total blank ∙ total-blank is_live

pub is_live-le : (s : ℕ) → is_live s ≤ 1
is_live-le s = grind (arith)

fourfold : (a b c d n m : ℕ) → a ≤ n → b ≤ n → c ≤ n → d ≤ n → m ≡ 4 * n → a + b + c + d ≤ m
fourfold a b c d n m h i j k e = omega arith

-- a square has no more cells of a kind than cells
pub tally-le : (f : ℕ → ℕ) (k : ℕ) (s : Square) → ((r : ℕ) → f r ≤ 1) → IsSquare k s → tally f s ≤ 2 ^ (k + k)
unfolding IsSquare
tally-le f zero (one s) h is = h s
tally-le f (suc k) (one s) h is = absurd is
tally-le f zero (four nw ne sw se) h is = absurd is
tally-le f (suc k) (four nw ne sw se) h is =
    let more : suc k + suc k ≡ suc (suc (k + k)) = omega arith in
    let e : 2 ^ (suc k + suc k) ≡ 4 * 2 ^ (k + k) = omega (arith, ap (λ n. 2 ^ n) more, pow-suc 2 (suc (k + k)), pow-suc 2 (k + k)) in
    fourfold _ _ _ _ (2 ^ (k + k)) (2 ^ (suc k + suc k)) (tally-le f k nw h is.0) (tally-le f k ne h is.1) (tally-le f k sw h is.2) (tally-le f k se h is.3) e

-- an empty square has none
pub tally-empty : (f : ℕ → ℕ) (k : ℕ) → f 0 ≡ 0 → tally f (empty_square k) ≡ 0
unfolding empty_square
tally-empty f zero none = none
tally-empty f (suc k) none = let e : tally f (empty_square k) ≡ 0 = tally-empty f k none in omega arith
