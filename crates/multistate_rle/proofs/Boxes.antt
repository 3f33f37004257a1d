-- The bounding box of a world is the box of its live cells.
use Rattle.multistate_rle.proofs.Names.{AllByRecursion, Bool, Frame, HasMargin, IsBoundingBox, IsInBox, List, MatchOption, None, Option, Place, Some, World, [], ap, arith, as_live, blank, box_of, box_with, by_place, cell, cell-blank}
use Rattle.multistate_rle.proofs.Names.{cell-state_at, cond, distance, entries-blank, frame_of, grown, ints, live, live-entries, live-states, map, neg_ℤ, pos, refl, same_world, state_at, subst, sym, ℕ, ℤ, ◌<◌, ◌^◌, ◌∙◌, ◌∷◌, ◌≡◌, ◌≤ℤ◌, ◌≤◌}
use Rattle.worlds.specs.declared.cell.Bounds.{Bounds}
use Rattle.multistate_rle.proofs.HeadReads.{IsCoordinate}

-- each edge of the box touches a live cell
record Touches (w : World) (b : Bounds) : Type 0 where
  touched_left : (y : ℤ) × (0 < cell w b.left y)
  touched_right : (y : ℤ) × (0 < cell w b.right y)
  touched_top : (x : ℤ) × (0 < cell w x b.top)
  touched_bottom : (x : ℤ) × (0 < cell w x b.bottom)

either : (t : Bool) (a b : ℤ) (P : ℤ → Type 0) → P a → P b → P (cond t a b)
either t a b P p q = grind (arith, ints)

grown-touches : (w : World) (b : Bounds) (x y : ℤ) → Touches w b → 0 < cell w x y → Touches w (grown (Some b) x y)
grown-touches w b x y h live = grind (arith, ints, either)

in_grown : (b : Bounds) (x y x' y' : ℤ) → IsInBox b x' y' → IsInBox (grown (Some b) x y) x' y'
in_grown b x y x' y' h = grind (arith, ints)

in_grown-new : (b : Bounds) (x y : ℤ) → IsInBox (grown (Some b) x y) x y
in_grown-new b x y = grind (arith, ints)

-- r is b, grown to hold these live cells
record IsGrown (w : World) (b : Bounds) (cells : List (Place × ℕ)) (r : Bounds) : Type 0 where
  is : box_with (Some b) cells ≡ Some r
  holds_box : (x y : ℤ) → IsInBox b x y → IsInBox r x y
  holds_cells : AllByRecursion (λ (c : Place × ℕ). IsInBox r c.0.1 c.0.0) cells
  touches : Touches w r

abbrev AreLive : World → List (Place × ℕ) → Type 0
AreLive w cells = AllByRecursion (λ (c : Place × ℕ). (cell w c.0.1 c.0.0 ≡ c.1) × (0 < c.1)) cells

grown-box : (w : World) (b : Bounds) (cells : List (Place × ℕ)) → Touches w b → AreLive w cells → (r : Bounds) × IsGrown w b cells r
grown-box w b [] touches live = (b, record { is = refl; holds_box = λ x y h. h; holds_cells = tt; touches = touches })
grown-box w b (c ∷ cells) touches live =
    let x : ℤ = c.0.1 in
    let y : ℤ = c.0.0 in
    let all = grown-box w (grown (Some b) x y) cells (grown-touches w b x y touches (omega (arith, live.0.0, live.0.1))) live.1 in (
      all.0,
      record {
        is = all.1.is;
        holds_box = λ x' y' h. all.1.holds_box x' y' (in_grown b x y x' y' h);
        holds_cells = (all.1.holds_box x y (in_grown-new b x y), all.1.holds_cells);
        touches = all.1.touches;
      },
    )

-- the box of a world's live cells: the bounding box, and none for the blank world
abbrev IsBoxOf : World → Option Bounds → Type 0
IsBoxOf w box = MatchOption box (w ≡ blank) (λ b. IsBoundingBox b w)

is_box : (w : World) (cells : List (Place × ℕ)) → cells ≡ live w → IsBoxOf w (box_of cells)
is_box w [] is = same_world w blank (λ x y. cell-state_at w x y ∙ ap (λ cells. state_at cells (y, x)) (sym is) ∙ sym (cell-blank x y))
is_box w (c ∷ cells) is =
    let x : ℤ = c.0.1 in
    let y : ℤ = c.0.0 in
    let live : AreLive w (c ∷ cells) = subst (AreLive w) (sym is) (live-states w) in
    let here : 0 < cell w x y = omega (arith, live.0.0, live.0.1) in
    let all = grown-box w (grown None x y) cells (record { touched_left = (y, here); touched_right = (y, here); touched_top = (x, here); touched_bottom = (x, here) }) live.1 in
    let first = all.1.holds_box x y (grind (arith, ints)) in
    subst (IsBoxOf w) (sym all.1.is) (record {
      holds = λ x' y' k. by_place (c ∷ cells) (λ x y _. IsInBox all.0 x y) (first, all.1.holds_cells) x' y'
          (subst (λ s. 0 < s) (cell-state_at w x' y' ∙ ap (λ cells. state_at cells (y', x')) (sym is)) k);
      touched_left = all.1.touches.touched_left;
      touched_right = all.1.touches.touched_right;
      touched_top = all.1.touches.touched_top;
      touched_bottom = all.1.touches.touched_bottom;
    })

-- a bounding box lies in any other, so there is one at most
inside_box : (w : World) (a b : Bounds) → IsBoundingBox a w → IsBoundingBox b w → (b.left ≤ℤ a.left) × (b.top ≤ℤ a.top) × (a.right ≤ℤ b.right) × (a.bottom ≤ℤ b.bottom)
inside_box w a b p q = (
  (q.holds a.left p.touched_left.0 p.touched_left.1).left,
  (q.holds p.touched_top.0 a.top p.touched_top.1).top,
  (q.holds a.right p.touched_right.0 p.touched_right.1).right,
  (q.holds p.touched_bottom.0 a.bottom p.touched_bottom.1).bottom,
)

one_box : (w : World) (a b : Bounds) → IsBoundingBox a w → IsBoundingBox b w → a ≡ b
one_box w a b p q = grind (arith, ints, inside_box w a b p q, inside_box w b a q p)

dead-blank : (w : World) (x y : ℤ) → w ≡ blank → 0 < cell w x y → ⊥
dead-blank w x y is live = let dead : cell w x y ≡ 0 = ap (λ v. cell v x y) is ∙ cell-blank x y in omega arith

found_box : (w : World) (o : Option Bounds) (b : Bounds) → IsBoxOf w o → IsBoundingBox b w → o ≡ Some b
found_box w None b h k = absurd (dead-blank w b.left k.touched_left.0 h k.touched_left.1)
found_box w (Some a) b h k = ap (λ d. Some d) (one_box w a b h k)

-- the box of the live cells is the bounding box
pub box_of_live : (w : World) (b : Bounds) → IsBoundingBox b w → box_of (live w) ≡ Some b
box_of_live w b k = found_box w (box_of (live w)) b (is_box w (live w) refl) k

-- the box of the live cells of the blank world
pub box_of_blank : (w : World) → w ≡ blank → box_of (live w) ≡ None
box_of_blank w is = ap (λ v. box_of (live v)) is ∙ ap box_of (live-entries blank ∙ ap (map as_live) entries-blank)

pub same_frame : {a b c d : ℤ} {k l m n : ℕ} → a ≡ b → c ≡ d → k ≡ l → m ≡ n → ◌≡◌ {A = Frame} (record { left = a; top = c; width = k; height = m }) (record { left = b; top = d; width = l; height = n })
same_frame left top width height = λ i. record { left = left i; top = top i; width = width i; height = height i }

-- a coordinate in or beside the range of planes
abbrev pub IsNear : ℤ → Type 0
IsNear z = (neg_ℤ (pos (2 ^ 61)) ≤ℤ z) × (z ≤ℤ pos (2 ^ 61))

pub distance-near : (a b : ℤ) → IsNear a → IsNear b → distance a b ≤ 2 ^ 62
distance-near a b h k = let la = h.0 in let ha = h.1 in let lb = k.0 in let hb = k.1 in grind (arith, ints)

-- a frame that holds the live cells and lies in the range of planes
pub record FrameFits (w : World) (f : Frame) : Type 0 where
  pub left : IsCoordinate f.left
  pub top : IsCoordinate f.top
  pub width : f.width < 2 ^ 64
  pub height : f.height < 2 ^ 64
  pub holds : (x y : ℤ) → 0 < cell w x y → (f.left ≤ℤ x) × (f.top ≤ℤ y)

fits_box : (w : World) (o : Option Bounds) → HasMargin 0 w → IsBoxOf w o → FrameFits w (frame_of o)
fits_box w None inside blank =
    let none = λ (x y : ℤ). dead-blank w x y blank in grind (arith, ints, none)
fits_box w (Some b) inside box =
    let l = inside b.left box.touched_left.0 box.touched_left.1 in
    let r = inside b.right box.touched_right.0 box.touched_right.1 in
    let t = inside box.touched_top.0 b.top box.touched_top.1 in
    let m = inside box.touched_bottom.0 b.bottom box.touched_bottom.1 in
    let wide = distance-near b.left b.right (grind (arith, ints, l)) (grind (arith, ints, r)) in
    let high = distance-near b.top b.bottom (grind (arith, ints, t)) (grind (arith, ints, m)) in
    record {
      left = grind (arith, ints, l);
      top = grind (arith, ints, t);
      width = omega (arith, wide);
      height = omega (arith, high);
      holds = λ x y live. ((box.holds x y live).left, (box.holds x y live).top);
    }

-- the frame of a world's live cells
pub frame-fits : (w : World) → HasMargin 0 w → FrameFits w (frame_of (box_of (live w)))
frame-fits w inside = fits_box w (box_of (live w)) inside (is_box w (live w) refl)
