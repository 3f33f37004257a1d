-- What the tests of edits say.
use Rattle.schedule.proofs.Names.{AllBelow, AllByRecursion, AreNamed, Bool, CellSet, HasMargin, IsBoundingBox, IsGreatest, IsInBox, IsInside, List, Place, SetBelow, World, [], all_so, ap, arith, blank, cell, entries-blank, int_le, int_lt}
use Rattle.schedule.proofs.Names.{is_named, lies_below, lies_near, list_all, map, may_be_named, nat_lt, nat_tests, neg_ℤ, pos, set_below, stay_in_range, subst, suc, sym, true, zero, ℕ, ℤ, ◌&&◌, ◌+ℤ◌, ◌+◌, ◌-ℤ◌, ◌<ℤ◌, ◌<◌, ◌^◌, ◌∙◌, ◌∷◌}
use Rattle.schedule.proofs.Names.{◌≡◌, ◌≤ℤ◌}
use Rattle.std.proofs.lemmas.Int.{ints}
use Rattle.worlds.specs.Live.{live, live-states, live-entries, as_live, cell-state_at, by_place}
use Rattle.worlds.specs.declared.cell.Bounds.{Bounds}
use Rattle.schedule.specs.Near.{box_near}
use Rattle.schedule.proofs.Each.{each_passes, all_pass}

place_inside : (x y : ℤ) → (is_named x && is_named y) ≡ true → IsInside (2 ^ 60) x y
place_inside x y h = grind (arith, ints)

pub AreNamed-stay : (cells : List CellSet) → stay_in_range cells ≡ true → AreNamed cells
AreNamed-stay cells h = each_passes may_be_named _ cells (λ c k. place_inside c.x c.y k) h

pub SetBelow-test : (n : ℕ) (cells : List CellSet) → set_below n cells ≡ true → SetBelow n cells
SetBelow-test n cells h = each_passes (λ (c : CellSet). nat_lt c.state n) _ cells (λ c k. grind (arith, nat_tests)) h

at_least_one : (s n : ℕ) → 0 < n → (0 < s → s < n) → s < n
at_least_one zero n some h = some
at_least_one (suc s) n some h = h (omega arith)

-- the states of a world, by the list of its live cells
pub AllBelow-lies : (n : ℕ) (w : World) → 0 < n → lies_below n w ≡ true → AllBelow n w
AllBelow-lies n w some h x y =
    at_least_one (cell w x y) n some (λ alive.
    subst (λ s. s < n) (sym (cell-state_at w x y))
    (by_place (live w) (λ _ _ s. s < n) (each_passes (λ (e : Place × ℕ). nat_lt e.1 n) _ (live w)
    (λ e k. grind (arith, nat_tests)) h) x y (subst (λ s. 0 < s) (cell-state_at w x y) alive)))

same_tests : (s t : Bool) → (s ≡ true → t ≡ true) → (t ≡ true → s ≡ true) → s ≡ t
same_tests s t f g = grind (arith, f, g)

lies_from : (n g : ℕ) (w : World) (es : List (Place × ℕ)) → g < n → AllBelow (g + 1) w
    → AllByRecursion (λ (e : Place × ℕ). (cell w e.0.1 e.0.0 ≡ e.1) × (0 < e.1)) es
    → AllByRecursion (λ (e : Place × ℕ). e.1 < n) es
lies_from n g w [] h above all = tt
lies_from n g w (e ∷ es) h above all =
    let most = above e.0.1 e.0.0 in grind (arith, most, lies_from n g w es h above all.1)

-- by the greatest state
pub lies_below_is : (w : World) (g n : ℕ) → IsGreatest w g → 0 < n → nat_lt g n ≡ lies_below n w
lies_below_is w g n most some =
    let low = λ (e : g < n). all_pass (λ (d : Place × ℕ). nat_lt d.1 n) (λ d. d.1 < n) (live w)
    (λ d k. grind (arith, nat_tests)) (lies_from n g w (live w) e most.above (live-states w)) in
    let least = λ (k : lies_below n w ≡ true). most.least n (AllBelow-lies n w some k) in
    same_tests (nat_lt g n) (lies_below n w) (λ e. low (grind (arith, nat_tests))) (λ k. let l = least k in grind (arith, nat_tests))

-- the places of a world's live cells, by their list
pub HasMargin-lies : (w : World) → lies_near w ≡ true → HasMargin (2 ^ 60) w
HasMargin-lies w h x y alive =
    let is = cell-state_at w x y in
    by_place (live w) (λ x y _. IsInside (2 ^ 60) x y)
    (each_passes (λ (e : Place × ℕ). is_named e.0.1 && is_named e.0.0) _ (live w)
    (λ e k. place_inside e.0.1 e.0.0 k) h) x y (subst (λ s. 0 < s) is alive)

-- a place in such a box
in_box_near : (b : Bounds) (x y : ℤ) → box_near b ≡ true → IsInBox b x y → (is_named x && is_named y) ≡ true
in_box_near b x y h inside = grind (arith, ints)

least_near : (z : ℤ) → neg_ℤ (pos (2 ^ 61)) ≤ℤ (z -ℤ pos (2 ^ 60)) → int_le (neg_ℤ (pos (2 ^ 60))) z ≡ true
least_near z h = grind (arith, ints)

most_near : (z : ℤ) → (z +ℤ pos (2 ^ 60)) <ℤ pos (2 ^ 61) → int_lt z (pos (2 ^ 60)) ≡ true
most_near z h = grind (arith, ints)

box_near-live : (w : World) (b : Bounds) → IsBoundingBox b w → HasMargin (2 ^ 60) w → box_near b ≡ true
box_near-live w b box inside =
    let left = least_near b.left (inside b.left box.touched_left.0 box.touched_left.1).left in
    let right = most_near b.right (inside b.right box.touched_right.0 box.touched_right.1).right in
    let top = least_near b.top (inside box.touched_top.0 b.top box.touched_top.1).top in
    let bottom = most_near b.bottom (inside box.touched_bottom.0 b.bottom box.touched_bottom.1).bottom in
    grind (arith, left, right, top, bottom)

-- by the bounding box
pub lies_near_is : (w : World) (b : Bounds) → IsBoundingBox b w → box_near b ≡ lies_near w
lies_near_is w b box =
    let near = λ (e : box_near b ≡ true).
    all_pass (λ (d : Place × ℕ). is_named d.0.1 && is_named d.0.0) (λ d. IsInBox b d.0.1 d.0.0) (live w)
    (λ d k. in_box_near b d.0.1 d.0.0 e k)
    (all_so (λ (d : Place × ℕ). (cell w d.0.1 d.0.0 ≡ d.1) × (0 < d.1)) (λ d. IsInBox b d.0.1 d.0.0) (live w)
    (λ d k. box.holds d.0.1 d.0.0 (subst (λ s. 0 < s) (sym k.0) k.1)) (live-states w)) in
    let inside = λ (k : lies_near w ≡ true). box_near-live w b box (HasMargin-lies w k) in
    same_tests (box_near b) (lies_near w) near inside

-- where no cell is live
pub lies_near-blank : (w : World) → w ≡ blank → lies_near w ≡ true
lies_near-blank w is = ap lies_near is ∙ ap (λ es. list_all (λ (e : Place × ℕ). is_named e.0.1 && is_named e.0.0) es)
    (live-entries blank ∙ ap (map as_live) entries-blank)
