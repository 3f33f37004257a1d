-- Cells as a plane lists them.
use Rattle.std.specs.Prelude.{◌<◌, ◌^◌, pos, ◌<ℤ◌}
use Rattle.worlds.specs.declared.cell.Cell.{Cell}

-- the cell isn't empty, and lies left of the right edge of planes
abbrev pub IsListed : Cell → Type 0
IsListed c = (0 < c.state) × (c.x <ℤ pos (2 ^ 61))
