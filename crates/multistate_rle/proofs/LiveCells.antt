-- The live cells of a world: their order, their tokens, and the world that they make.
use Rattle.multistate_rle.proofs.Names.{All, All-from_recursion, AllByRecursion, HasMargin, IsInside, List, None, Ordering, Place, T, Token, World, [], all_append, all_so, ap, arith, as_live, behind, blank, by_lt_z, cell, cell-blank}
use Rattle.multistate_rle.proofs.Names.{cell-lay, cell-state_at, distance, first, inl, inr, ints, joined, last_mention, lay, length, live, live-entries, live-states, map, nat_tests, of_cell, place_cmp, pos, refl, same_place, same_world}
use Rattle.multistate_rle.proofs.Names.{second, subst, sym, tokens, unwrap_or, way, way_by, zeros, ℕ, ℤ, ◌+ℤ◌, ◌+◌, ◌-◌, ◌<ℤ◌, ◌<◌, ◌^◌, ◌∙◌, ◌∷◌, ◌≡◌, ◌≤ℤ◌, ◌≤◌, ◌⊎◌}
use Rattle.std.specs.Ordering.{MatchOrdering, ordering_then, is_lt}
use Rattle.std.specs.Cmp.{int_ranks}
use Rattle.std.specs.Map.{lookup}
use Rattle.std.specs.FinMap as map
use Rattle.std.specs.FinMap.Entries.{is_sorted}
use Rattle.worlds.specs.Fill.{same_is}
use Rattle.worlds.specs.declared.cell.Cell.{Cell}
use Rattle.multistate_rle.specs.Listed.{IsListed}
use Rattle.multistate_rle.proofs.BodyReads.{IsWritable}
use Rattle.multistate_rle.proofs.Boxes.{IsNear, distance-near}
use Rattle.multistate_rle.proofs.StripCells.{set_of, IsAhead, AreAhead}

-- a listed cell has its state in the world, and is live
abbrev pub IsListedIn : World → Place × ℕ → Type 0
IsListedIn w e = (cell w e.0.1 e.0.0 ≡ e.1) × (0 < e.1)

-- what is mentioned last at a place is the state there, if it was the state before or is mentioned
mentioned : (w : World) (es : List (Place × ℕ)) (x y : ℤ) (s : ℕ) → AllByRecursion (IsListedIn w) es → (lookup (same_place (y, x)) es ≡ None → s ≡ cell w x y)
    → last_mention (map set_of es) x y s ≡ cell w x y
mentioned w [] x y s h is = is refl
mentioned w (e ∷ es) x y s h is = grind (arith, same_is (y, x) e.0, mentioned w es x y e.1 h.1, mentioned w es x y s h.1)

-- the live cells, laid on the blank world, make the world
pub lay-live : (w : World) → lay (map set_of (live w)) blank ≡ w
lay-live w = same_world (lay (map set_of (live w)) blank) w (λ x y.
    cell-lay (map set_of (live w)) blank x y
    ∙ ap (last_mention (map set_of (live w)) x y) (cell-blank x y)
    ∙ mentioned w (live w) x y 0 (live-states w) (λ none. sym (cell-state_at w x y ∙ ap (λ o. unwrap_or o 0) none)))

-- a place behind another is ahead of the next one
next_ahead : (left : ℤ) (p q : Place) (o r : Ordering) → MatchOrdering o (p.0 <ℤ q.0) (p.0 ≡ q.0) (q.0 <ℤ p.0) → MatchOrdering r (p.1 <ℤ q.1) (p.1 ≡ q.1) (q.1 <ℤ p.1)
    → T (is_lt (ordering_then o r)) → left ≤ℤ q.1 → IsAhead left (behind p) q
next_ahead left p q o r m k h edge = grind (arith, ints)

-- a live cell in the range of planes, right of the left edge and not above the top, with a state below `states`
pub record IsCellOf (states : ℕ) (left top : ℤ) (e : Place × ℕ) : Type 0 where
  pub inside : IsInside 0 e.0.1 e.0.0
  pub edge : left ≤ℤ e.0.1
  pub low : top ≤ℤ e.0.0
  pub live : 0 < e.1
  pub below : e.1 < states

ahead_next : (states : ℕ) (left top : ℤ) (e : Place × ℕ) (es : List (Place × ℕ)) → T (is_sorted place_cmp (e ∷ es)) → AllByRecursion (IsCellOf states left top) (map as_live es)
    → AreAhead left (behind e.0) (map as_live es)
ahead_next states left top e [] sorted h = tt
ahead_next states left top e (f ∷ fs) sorted h = (
  next_ahead left e.0 f.0 _ _ (int_ranks e.0.0 f.0.0) (int_ranks e.0.1 f.0.1) (first _ _ (first _ _ sorted)) h.0.edge,
  (h.0.live, ahead_next states left top f fs (second _ _ sorted) h.1),
)

ahead : (states : ℕ) (left top : ℤ) (es : List (Place × ℕ)) → T (is_sorted place_cmp es) → AllByRecursion (IsCellOf states left top) (map as_live es)
    → AreAhead left (top, left) (map as_live es)
ahead states left top [] sorted h = tt
ahead states left top (e ∷ es) sorted h =
    let cell = h.0 in
    let here : (top <ℤ e.0.0) ⊎ ((top ≡ e.0.0) × (left ≤ℤ e.0.1)) = by_lt_z top e.0.0 (λ k. inl k) (λ (k : e.0.0 ≤ℤ top). inr (omega (arith, ints, k), cell.edge)) in
    ((cell.edge, here), (cell.live, ahead_next states left top e es sorted h.1))

-- the live cells, from the corner of their frame on
pub live-ahead : (w : World) (states : ℕ) (left top : ℤ) → AllByRecursion (IsCellOf states left top) (live w) → AreAhead left (top, left) (live w)
live-ahead w states left top h =
    rw (live-entries w) (ahead states left top (map.entries w) (map.entries_sorted w) (subst (AllByRecursion (IsCellOf states left top)) (live-entries w) h))

-- a place in or beside the range of planes
abbrev pub IsBeside : Place → Type 0
IsBeside p = IsNear p.0 × IsNear p.1

zeros-writable : (most states n : ℕ) → 0 < states → n < most → AllByRecursion (IsWritable most states) (zeros n)
zeros-writable most states n some h = grind (arith)

way-writable : (most states n : ℕ) (left : ℤ) (from to : Place) → 0 < states → n < most → distance from.1 to.1 < most → distance left to.1 < most → AllByRecursion (IsWritable most states) (way_by n left from to)
way-writable most states n left from to some h k m = grind (arith, ints, zeros-writable)

writable-more : (few most states : ℕ) (t : Token) → few ≤ most → IsWritable few states t → IsWritable most states t
writable-more few most states t le h = grind (arith)

joined-writable : (few most states s : ℕ) (ts : List Token) → 0 < few → few < most → s < states → AllByRecursion (IsWritable few states) ts
    → AllByRecursion (IsWritable most states) (joined 1 s ts)
joined-writable few most states s ts some less below h = grind (arith, nat_tests, all_so, writable-more)

-- the tokens of cells can be written
pub tokens-writable : (most states : ℕ) (left top : ℤ) (from : Place) (cs : List (Place × ℕ)) → 0 < states → length cs + 2 ^ 62 < most → IsNear left → IsBeside from
    → AllByRecursion (IsCellOf states left top) cs → AllByRecursion (IsWritable most states) (tokens left from cs)
tokens-writable most states left top from [] some enough edge near h = (tt, tt)
tokens-writable most states left top from (c ∷ cs) some enough edge near h =
    let at = h.0.inside in
    let x : IsNear c.0.1 = (omega (arith, ints), omega (arith, ints)) in
    let y : IsNear c.0.0 = (omega (arith, ints), omega (arith, ints)) in
    let beyond : IsNear (c.0.1 +ℤ pos 1) = (omega (arith, ints), omega (arith, ints)) in
    let rows = distance-near from.0 c.0.0 near.0 y in
    let gap = distance-near from.1 c.0.1 near.1 x in
    let indent = distance-near left c.0.1 edge x in
    let later : List Token = tokens left (behind c.0) cs in
    all_append (IsWritable most states) (way left from c.0) (joined 1 c.1 later)
    (way-writable most states (distance from.0 c.0.0) left from c.0 some (omega arith) (omega arith) (omega arith))
    (joined-writable (most - 1) most states c.1 later (omega arith) (omega arith) h.0.below
    (tokens-writable (most - 1) states left top (behind c.0) cs some (omega arith) edge (y, beyond) h.1))

each_listed : (w : World) (cells : List Cell) → AllByRecursion (IsListedIn w) (map of_cell cells) → HasMargin 0 w → AllByRecursion IsListed cells
each_listed w [] states inside = tt
each_listed w (c ∷ cs) states inside = grind (arith, ints, each_listed w cs states.1 inside)

-- the cells that a plane lists aren't empty, and lie left of the right edge of planes
pub all_listed : (w : World) (cells : List Cell) → map of_cell cells ≡ live w → HasMargin 0 w → All IsListed cells
all_listed w cells is inside = All-from_recursion IsListed cells (each_listed w cells (subst (AllByRecursion (IsListedIn w)) (sym is) (live-states w)) inside)
