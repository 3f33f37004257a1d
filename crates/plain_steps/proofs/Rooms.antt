-- Places in a square with room around a cell, and in the greatest one.
use Rattle.plain_steps.proofs.Names.{All, CellHasRoom, CellSet, HasRoomAround, IsHeld, List, arith, ints, pos, subst, ℕ, ℤ, ◌+ℤ◌, ◌-ℤ◌, ◌≡◌, ◌≤ℤ◌}

-- a place at or around the cell
pub held_near : (l : ℕ) (x y x' y' : ℤ) → HasRoomAround l x y → (x -ℤ pos 1) ≤ℤ x' → x' ≤ℤ (x +ℤ pos 1) → (y -ℤ pos 1) ≤ℤ y' → y' ≤ℤ (y +ℤ pos 1) → IsHeld l x' y'
held_near l x y x' y' room left right top bottom = omega (arith, ints)

-- cells with room lie in the square themselves
pub held_with_room : (l m : ℕ) (cs ds : List CellSet) → All (CellHasRoom l) cs → cs ≡ ds → m ≡ l → All (λ c. IsHeld m c.x c.y) ds
held_with_room l m cs ds room same level =
    subst (All (λ (c : CellSet). IsHeld m c.x c.y)) same (λ k d at. grind (arith, ints, room k d at))
