-- What a change of a quadtree does to what it says.
use Rattle.std.specs.Prelude.{◌≡◌, ℕ, Some}
use Rattle.square_tree.specs.Quadtree.{Quadtree, HasLevel, at}

-- the new quadtree says this state of the cell in column x and row y, and of the others what the
-- old one says
pub record IsSet (l x y s : ℕ) (old new : Quadtree) : Type 0 where
  pub level : HasLevel l new
  pub here : at new l x y ≡ Some s
  pub others : (x' y' : ℕ) → (x' ≡ x → y' ≡ y → ⊥) → at new l x' y' ≡ at old l x' y'
