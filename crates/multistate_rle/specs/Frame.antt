-- The frame of a pattern: the place and the size of its bounding box.
use Rattle.std.specs.Prelude.{ℕ, ◌+◌, List, [], ◌∷◌, ℤ, pos, Option, None, Some}
use Rattle.std.specs.Int.{int_min, int_max}
use Rattle.worlds.specs.World.{Place}
use Rattle.worlds.specs.declared.cell.Bounds.{Bounds}
use Rattle.multistate_rle.specs.declared.frame.Frame.{Frame}
use Rattle.multistate_rle.specs.Token.{distance}

-- the least box that holds the given one, if there is one, and (x, y)
abbrev pub grown : Option Bounds → ℤ → ℤ → Bounds
grown None x y = record { left = x; top = y; right = x; bottom = y }
grown (Some b) x y =
    record {
      left = int_min b.left x;
      top = int_min b.top y;
      right = int_max b.right x;
      bottom = int_max b.bottom y;
    }

-- the least box that holds the given one, if there is one, and the listed cells
abbrev pub box_with : Option Bounds → List (Place × ℕ) → Option Bounds
box_with b [] = b
box_with b (c ∷ cs) = box_with (Some (grown b c.0.1 c.0.0)) cs

-- the least box that holds the listed cells; there is none for no cells
abbrev pub box_of : List (Place × ℕ) → Option Bounds
box_of cells = box_with None cells

-- the place and the size of a box, and 0 for all four where there is none
abbrev pub frame_of : Option Bounds → Frame
frame_of None = record { left = pos 0; top = pos 0; width = 0; height = 0 }
frame_of (Some b) =
    record {
      left = b.left;
      top = b.top;
      width = distance b.left b.right + 1;
      height = distance b.top b.bottom + 1;
    }
