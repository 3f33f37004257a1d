-- Boxes that lie where edits may name cells.
use Rattle.std.specs.Prelude.{◌^◌, pos, neg_ℤ, int_le, int_lt, Bool, ◌&&◌}
use Rattle.worlds.specs.declared.cell.Bounds.{Bounds}

-- the edges of the box lie in -2^60 <= x, y < 2^60
abbrev pub box_near : Bounds → Bool
box_near b =
    int_le (neg_ℤ (pos (2 ^ 60))) b.left && int_lt b.right (pos (2 ^ 60))
    && (int_le (neg_ℤ (pos (2 ^ 60))) b.top && int_lt b.bottom (pos (2 ^ 60)))
