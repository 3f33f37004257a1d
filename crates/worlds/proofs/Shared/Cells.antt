-- Cells at places that are one.
use Rattle.std.proofs.Common.{◌≡◌, ℤ, ap₂}
use Rattle.worlds.specs.World.{World, cell}

pub same_cell : (w : World) (x y x' y' : ℤ) → x ≡ x' → y ≡ y' → cell w x y ≡ cell w x' y'
same_cell w x y x' y' e f = ap₂ (cell w) e f
