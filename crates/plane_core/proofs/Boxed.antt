-- The live cells of squares that lie in a box.
use Rattle.plane_core.proofs.Names.{All-append, All-cons, All-nil, AreLiveWithin, Bool, Bounds, Cell, Covers, Gathers, InFirst, IsInBox, IsLiveWithin, IsQuadrant, IsRoot, List, Part, Shows, SquareRow, World, [], ap, arith, cases_lt, cell}
use Rattle.plane_core.proofs.Names.{cond, cond-false, cond-true, count_at, inl, inr, int_le, ints, is_same, pos, refl, same_place, sum_by-append, sum_by-cons, world_of_rows, ℕ, ℤ, ◌++◌, ◌+ℤ◌, ◌+◌, ◌-◌, ◌<◌, ◌^◌, ◌∙◌, ◌∷◌, ◌≡◌, ◌≤◌}
use Rattle.plane_core.proofs.Laying.{outer_place}
use Rattle.plane_core.proofs.Parts.{in_quadrant, of_quadrant, shows-none, shows-state, root-live}

-- where there are none, none is added
pub gathers-none : (b : Bounds) (w : World) (Here : ℤ → ℤ → Type 0) (cells : List Cell) → ((x y : ℤ) → Here x y → IsInBox b x y → 0 < cell w x y → ⊥) → Gathers b w Here cells cells
gathers-none b w Here cells none = record { each = λ h. h; once = λ x y h box live. absurd (none x y h box live); others = λ x y h. refl }

pub gathers-empty : (b : Bounds) (w : World) (rows : List SquareRow) (p : Part) (cells : List Cell) → p.number ≡ 0 → Shows w rows p → Gathers b w (Covers p) cells cells
gathers-empty b w rows p cells none shows = gathers-none b w (Covers p) cells (λ x y h box live. let e = shows-none w rows p x y none shows h in absurd (omega (arith, live, e)))

-- those of the first quadrants and of the next
pub gathers-next : (b : Bounds) (w : World) (q : ℕ) (p r : Part) (f g h : List Cell) → 0 < p.level → q < 4 → IsQuadrant q p r → Gathers b w (InFirst q p) f g → Gathers b w (Covers r) g h → Gathers b w (InFirst (q + 1) p) f h
gathers-next b w q p r f g h some few is first next = record {
  each = λ all. next.each (first.each all);
  once = λ x y at box live.
      elim (cases_lt _ q) [
        | inl before ↦
            next.others x y (λ here. let e = (in_quadrant q p r some few is x y here).1 in absurd (omega (arith, before, e)))
            ∙ first.once x y (at.0, before) box live
        | inr after ↦ grind (arith, of_quadrant)
      ];
  others = λ x y out.
      next.others x y (λ here. let at = in_quadrant q p r some few is x y here in let e = at.1 in out (at.0, omega arith))
      ∙ first.others x y (λ here. let lt = here.1 in out (here.0, omega arith));
}

-- each place lies in one of four
in_four : (b c : Bool) → cond b (cond c 3 2) (cond c 1 0) < 4
in_four b c = grind arith

pub gathers-all : (b : Bounds) (w : World) (q : ℕ) (p : Part) (f g : List Cell) → 4 ≤ q → Gathers b w (InFirst q p) f g → Gathers b w (Covers p) f g
gathers-all b w q p f g most all = record {
  each = all.each;
  once = λ x y h box live. (let lt = in_four (int_le (p.corner.y +ℤ pos (2 ^ (p.level - 1))) y) (int_le (p.corner.x +ℤ pos (2 ^ (p.level - 1))) x) in all.once x y (h, omega (arith, lt, most)) box live);
  others = λ x y out. all.others x y (λ here. out here.0);
}

count-push : (x y : ℤ) (cells : List Cell) (c : Cell) → count_at x y (cells ++ c ∷ []) ≡ count_at x y cells + cond (same_place (y, x) (c.y, c.x)) 1 0
count-push x y cells c = sum_by-append _ cells (c ∷ []) ∙ ap (λ n. count_at x y cells + n) (sum_by-cons (λ (c : Cell). cond (same_place (y, x) (c.y, c.x)) 1 0) c [] ∙ omega arith)

-- one cell in the box
pub gathers-cell : (b : Bounds) (w : World) (rows : List SquareRow) (p : Part) (cells : List Cell) → p.level ≡ 0 → 0 < p.number → IsInBox b p.corner.x p.corner.y → Shows w rows p
    → Gathers b w (Covers p) cells (cells ++ record { x = p.corner.x; y = p.corner.y; state = p.number } ∷ [])
gathers-cell b w rows p cells is live box shows =
    let c : Cell = record { x = p.corner.x; y = p.corner.y; state = p.number } in
    let unit : 2 ^ p.level ≡ 1 = ap (λ k. 2 ^ k) is in
    let here : Covers p c.x c.y = record { left = omega (arith, ints); right = omega (arith, ints); top = omega (arith, ints); bottom = omega (arith, ints) } in
    record {
      each = λ all. All-append (IsLiveWithin b w) cells (c ∷ []) all (All-cons (IsLiveWithin b w) c [] (record { inside = box; live = live; state = shows-state w rows p c.x c.y is shows here }) (All-nil _));
      once = λ x y h inside some.
          count-push x y cells c ∙ ap (λ n. count_at x y cells + n) (cond-true _ 1 0 (is_same (y, x) (c.y, c.x) (omega (arith, ints)) (omega (arith, ints))));
      others = λ x y out.
          count-push x y cells c
          ∙ ap (λ n. count_at x y cells + n) (cond-false _ 1 0 (outer_place (2 ^ p.level) c.x c.y x y c.x c.y out here))
          ∙ omega arith;
    }

-- those of the root are those of the world
pub gathers-world : (b : Bounds) (rows : List SquareRow) (p : Part) (cells : List Cell) → IsRoot rows p → Gathers b (world_of_rows rows) (Covers p) [] cells → AreLiveWithin b (world_of_rows rows) cells
gathers-world b rows p cells root all = grind (arith, All-nil, root-live)
