-- Places in a window, and the cells whose states are set in its list.
use Rattle.bookmarks.proofs.Names.{All, All-head, All-tail, AreLiveWithin, Cell, IsIn, IsLiveWithin, IsTrue, List, Place, SFits, World, [], ap, ap₂, arith, cell, cond, count_at, false, fits_signed_from_abs, get_or, get_or-set_other}
use Rattle.bookmarks.proofs.Names.{get_or-set_same, inl, inr, int_le, ints, last_state, length, mul-le-mul_left, nat_le, nat_lt, neg_ℤ, of_z, pos, refl, same_place, set, spans_plane, state_at, subst, sym, take, take_more, to_z, to_z-of_z}
use Rattle.bookmarks.proofs.Names.{true, unsigned_abs, w64, ℕ, ℤ, ◌&&◌, ◌*◌, ◌++◌, ◌+ℤ◌, ◌+◌, ◌-ℤ◌, ◌<◌, ◌^◌, ◌∙◌, ◌∷◌, ◌≡◌, ◌≢◌, ◌≤ℤ◌, ◌≤◌}
use Rattle.std.proofs.lemmas.Bool.{cases_lt, cond_both, and_parts, leb-true}
use Rattle.std.proofs.lemmas.List.Sums.{sum_by-cons}
use Rattle.worlds.specs.declared.cell.Bounds.{Bounds}
use Rattle.worlds.specs.Fill.{same_is, is_same}
use Rattle.worlds.specs.Range.{IsInBox}

abbrev pub no_cell : Cell
no_cell = record { x = pos 0; y = pos 0; state = 0 }

-- a coordinate in such a span
pub spanned : (z : ℤ) (n : ℕ) → IsTrue (spans_plane z n) → (neg_ℤ (pos (2 ^ 61)) ≤ℤ z) × ((z +ℤ pos n) ≤ℤ pos (2 ^ 61))
spanned z n inside =
    let parts = and_parts (int_le (neg_ℤ (pos (2 ^ 61))) z) (int_le z (pos (2 ^ 61) -ℤ pos n)) inside in
    let low : neg_ℤ (pos (2 ^ 61)) ≤ℤ z = (let h = parts.0 in grind (arith, ints)) in
    let high : z ≤ℤ (pos (2 ^ 61) -ℤ pos n) = (let h = parts.1 in grind (arith, ints)) in
    (low, omega (arith, ints))

-- a window has at most 65,536 cells
pub area : (width height : ℕ) → IsTrue (nat_lt 0 width && nat_lt 0 height && nat_le (width * height) 65536) → width * height ≤ 65536
area width height h = leb-true (width * height) 65536 (and_parts (nat_lt 0 width && nat_lt 0 height) (nat_le (width * height) 65536) h).1

-- no row behind another has its numbers
row_bound : (width x y i j : ℕ) → i < width → y * width + x ≡ j * width + i → y ≤ j
row_bound width x y i j narrow same =
    elim (cases_lt j y) [
      | inl below ↦
          let more : width * (j + 1) ≤ width * y = mul-le-mul_left width (omega (arith, below)) in
          absurd (omega (arith, more, same, narrow))
      | inr le ↦ le
    ]

-- in rows of so many columns a number stands for one column and one row
pub same_number : (width x y i j : ℕ) → x < width → i < width → y * width + x ≡ j * width + i → (x ≡ i) × (y ≡ j)
same_number width x y i j here there same =
    let low = row_bound width x y i j there same in
    let high = row_bound width i j x y here (sym same) in
    let row : y ≡ j = omega (arith, low, high) in
    let times : y * width ≡ j * width = ap (λ n. n * width) row in
    (omega (arith, times, same), row)

-- a column and a row of a rectangle have a number below that of its cells
pub number_below : (width height i j : ℕ) → i < width → j < height → j * width + i < width * height
number_below width height i j across down =
    let rows : width * (j + 1) ≤ width * height = mul-le-mul_left width (omega (arith, down)) in
    omega (arith, rows, across)

last-push : (cs : List Cell) (c : Cell) (x y : ℤ) (s : ℕ) → last_state (cs ++ c ∷ []) x y s ≡ cond (same_place (y, x) (c.y, c.x)) c.state (last_state cs x y s)
last-push [] c x y s = refl
last-push (d ∷ cs) c x y s = last-push cs c x y (cond (same_place (y, x) (d.y, d.x)) d.state s)

-- columns and rows from (left, top) on are the same where the places are
same_place_of : (left top : ℤ) (x y i j : ℕ) (x' y' : ℤ) → x' ≡ left +ℤ pos i → y' ≡ top +ℤ pos j → same_place (top +ℤ pos y, left +ℤ pos x) (y', x') ≡ true → (x ≡ i) × (y ≡ j)
same_place_of left top x y i j x' y' across down h =
    let e = same_is (top +ℤ pos y, left +ℤ pos x) (y', x') h in
    let ey : top +ℤ pos y ≡ y' = ap (λ (p : Place). p.0) e in
    let ex : left +ℤ pos x ≡ x' = ap (λ (p : Place). p.1) e in
    (omega (arith, ints), omega (arith, ints))

-- a cell of a box is among the places of its rectangle
pub is_in : (left top : ℤ) (width height size : ℕ) (b : Bounds) (c : Cell) → size ≡ width * height → b.left ≡ left → b.top ≡ top → (b.right +ℤ pos 1) ≡ left +ℤ pos width → (b.bottom +ℤ pos 1) ≡ top +ℤ pos height
    → IsInBox b c.x c.y → IsIn left top width size c
is_in left top width height size b c sized l t r d inside =
    let column = unsigned_abs (c.x -ℤ left) in
    let row = unsigned_abs (c.y -ℤ top) in
    let narrow : column < width = omega (arith, ints, l, r, inside.left, inside.right) in
    let low : row < height = omega (arith, ints, t, d, inside.top, inside.bottom) in
    record {
      column = column;
      row = row;
      across = omega (arith, ints, l, inside.left);
      down = omega (arith, ints, t, inside.top);
      narrow = narrow;
      listed = subst (λ n. row * width + column < n) (sym sized) (number_below width height column row narrow low);
    }

-- how far a coordinate lies from such an edge
pub offset : (z edge : ℤ) (n : ℕ) → SFits w64 z → SFits w64 edge → n ≤ 65536 → z ≡ edge +ℤ pos n → unsigned_abs (to_z w64 (of_z w64 (to_z w64 (of_z w64 z) -ℤ to_z w64 (of_z w64 edge)))) ≡ n
offset z edge n fz fe small is =
    let apart : z -ℤ edge ≡ pos n = omega (arith, ints, is) in
    let fits : unsigned_abs (pos n) < 2 ^ 63 = omega (arith, ints, small) in
    (λ i. unsigned_abs (to_z w64 (of_z w64 (to_z-of_z w64 z fz i -ℤ to_z-of_z w64 edge fe i))))
    ∙ ap (λ m. unsigned_abs (to_z w64 (of_z w64 m))) apart
    ∙ ap unsigned_abs (to_z-of_z w64 (pos n) (fits_signed_from_abs w64 (pos n) fits))

-- the number of a cell's place, as it is reckoned
pub number : (left top : ℤ) (width size : ℕ) (c : Cell) → SFits w64 left → SFits w64 top → SFits w64 c.x → SFits w64 c.y → size ≤ 65536 → (h : IsIn left top width size c)
    → unsigned_abs (to_z w64 (of_z w64 (to_z w64 (of_z w64 c.y) -ℤ to_z w64 (of_z w64 top)))) * width + unsigned_abs (to_z w64 (of_z w64 (to_z w64 (of_z w64 c.x) -ℤ to_z w64 (of_z w64 left)))) ≡ h.row * width + h.column
number left top width size c fl ft fx fy small h =
    let listed = h.listed in
    let narrow = h.narrow in
    let times : h.row * 1 ≤ h.row * width = mul-le-mul_left h.row (omega (arith, narrow)) in
    ap₂ (λ (r q : ℕ). r * width + q) (offset c.y top h.row fy ft (omega (arith, times, listed, small)) h.down) (offset c.x left h.column fx fl (omega (arith, listed, small)) h.across)

-- one more state is set
pub shown-set : (states after : List ℕ) (cs : List Cell) (k n : ℕ) (d : Cell) (left top : ℤ) (width size i j : ℕ) → k < length cs → length states ≡ size
    → (get_or cs k d).x ≡ left +ℤ pos i → (get_or cs k d).y ≡ top +ℤ pos j → i < width → n ≡ j * width + i → n < size
    → ((x y : ℕ) → x < width → y * width + x < size → state_at states width x y ≡ last_state (take k cs) (left +ℤ pos x) (top +ℤ pos y) 0)
    → after ≡ set states n (get_or cs k d).state
    → (x y : ℕ) → x < width → y * width + x < size → state_at after width x y ≡ last_state (take (k + 1) cs) (left +ℤ pos x) (top +ℤ pos y) 0
shown-set states after cs k n d left top width size i j below sized across down narrow numbered listed shown is x y inside held =
    let c : Cell = get_or cs k d in
    let X = left +ℤ pos x in
    let Y = top +ℤ pos y in
    let here : get_or (set states n c.state) (y * width + x) 0 ≡ cond (same_place (Y, X) (c.y, c.x)) c.state (last_state (take k cs) X Y 0) =
    elim (same_place (Y, X) (c.y, c.x)) as (λ b. same_place (Y, X) (c.y, c.x) ≡ b → get_or (set states n c.state) (y * width + x) 0 ≡ cond b c.state (last_state (take k cs) X Y 0)) [
      | true ↦ λ e.
          let at = same_place_of left top x y i j c.x c.y across down e in
          let number : y * width + x ≡ n = (let row : y * width ≡ j * width = ap (λ m. m * width) at.1 in omega (arith, row, at.0, numbered)) in
          ap (λ m. get_or (set states n c.state) m 0) number ∙ get_or-set_same states n c.state 0 (omega (arith, sized, listed))
      | false ↦ λ e.
          let other : y * width + x ≢ n = λ same.
          let at = same_number width x y i j inside narrow (same ∙ numbered) in
          let yes = is_same (Y, X) (c.y, c.x) (ap (λ m. top +ℤ pos m) at.1 ∙ sym down) (ap (λ m. left +ℤ pos m) at.0 ∙ sym across) in
          let k = sym yes ∙ e in cc in
          get_or-set_other states n (y * width + x) c.state 0 other ∙ shown x y inside held
    ] refl in
    grind (arith, here, last-push (take k cs) c X Y 0, take_more cs k d below)

count-more : (x y : ℤ) (c : Cell) (cs : List Cell) → count_at x y (c ∷ cs) ≡ cond (same_place (y, x) (c.y, c.x)) 1 0 + count_at x y cs
count-more x y c cs = sum_by-cons (λ (c : Cell). cond (same_place (y, x) (c.y, c.x)) 1 0) c cs

last-none : (cs : List Cell) (x y : ℤ) (s : ℕ) → count_at x y cs ≡ 0 → last_state cs x y s ≡ s
last-none [] x y s h = refl
last-none (c ∷ cs) x y s h =
    grind (arith, count-more x y c cs, last-none cs x y)

module _ (b : Bounds) (w : World) (x y : ℤ) where
  here : (c : Cell) → IsLiveWithin b w c → same_place (y, x) (c.y, c.x) ≡ true → c.state ≡ cell w x y
  here c h e = sym h.state ∙ sym (ap (λ (p : Place). cell w p.1 p.0) (same_is (y, x) (c.y, c.x) e))

  last-kept : (cs : List Cell) (s : ℕ) → All (IsLiveWithin b w) cs → s ≡ cell w x y → last_state cs x y s ≡ cell w x y
  last-kept [] s h is = is
  last-kept (c ∷ cs) s h is =
      last-kept cs (cond (same_place (y, x) (c.y, c.x)) c.state s) (All-tail (IsLiveWithin b w) c cs h)
      (cond_both (same_place (y, x) (c.y, c.x)) c.state s (λ n. n ≡ cell w x y) (here c (All-head (IsLiveWithin b w) c cs h)) (λ e. is))

  last-some : (cs : List Cell) (s : ℕ) → All (IsLiveWithin b w) cs → 0 < count_at x y cs → last_state cs x y s ≡ cell w x y
  last-some [] s h some = absurd (omega (arith, some))
  last-some (c ∷ cs) s h some =
      let first = here c (All-head (IsLiveWithin b w) c cs h) in
      let others = All-tail (IsLiveWithin b w) c cs h in
      grind (arith, count-more x y c cs, last-kept cs c.state others, last-some cs s others)

  -- the cells of a world within a box give each place in it its state
  pub last-within : (cs : List Cell) → AreLiveWithin b w cs → IsInBox b x y → last_state cs x y 0 ≡ cell w x y
  last-within cs h inside = grind (arith, cases_lt 0 (count_at x y cs), last-some cs 0 h.each, last-none cs x y 0, h.once x y inside)
