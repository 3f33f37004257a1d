-- The bounding box of a world in the range of planes.
use Rattle.step_engine.proofs.Names.{Bounds, HasMargin, IsBoundingBox, World, arith, blank, cell-blank, ints, ℕ, ◌↔◌, ◌≡◌}
use Rattle.step_engine.specs.Box.{IsInRange, BoxHasMargin}

-- a world has the margin that its bounding box has
pub HasMargin-box : (margin : ℕ) (b : Bounds) (w : World) → IsBoundingBox b w → BoxHasMargin margin b ↔ HasMargin margin w
HasMargin-box margin b w box = (
  λ h x y live. let at = box.holds x y live in omega (arith, ints),
  λ h. record {
    left = (h b.left box.touched_left.0 box.touched_left.1).left;
    right = (h b.right box.touched_right.0 box.touched_right.1).right;
    top = (h box.touched_top.0 b.top box.touched_top.1).top;
    bottom = (h box.touched_bottom.0 b.bottom box.touched_bottom.1).bottom;
  },
)

pub HasMargin-blank : (margin : ℕ) (w : World) → w ≡ blank → HasMargin margin w
HasMargin-blank margin w is x y live = grind (arith, cell-blank)

-- a plane's box lies in the range of planes
pub IsInRange-box : (b : Bounds) (w : World) → HasMargin 0 w → IsBoundingBox b w → IsInRange b
IsInRange-box b w h box =
    let edges = (HasMargin-box 0 b w box).1 h in
    let across = box.holds b.left box.touched_left.0 box.touched_left.1 in
    let down = box.holds box.touched_top.0 b.top box.touched_top.1 in
    omega (arith, ints)
