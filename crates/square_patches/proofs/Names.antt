-- The names that the proofs of this crate cite most, passed on from one place. It declares nothing.
pub use Rattle.square_patches.specs.Laying.{AreLaidAs, IsLaidAs, IsLaidOn, in_corner, in_middle, in_quadrant, laid}
pub use Rattle.square_table.specs.Squares.{AreNumbers, Grows, IsHeld, IsSquareOf, Table, cells_of, first_number, kids_at, level_of}
pub use Rattle.square_table.specs.Squares.{number_of, square_in, square_of}
pub use Rattle.square_tree.specs.Cells.{Cells, least, reach, state_at}
pub use Rattle.square_tree.specs.Quadtree.{HasLevel, Quadtree, at, cell, keep, quad, quadtree, quadtree_of_four}
pub use Rattle.std.proofs.Common.{Bool, IfOk, List, None, Option, Result, [], ap, ap₂, arith, cond, false, get_or, length, lit<, nat_lt, pos, refl, rules}
pub use Rattle.std.proofs.Common.{subst, suc, sym, true, unwrap_or, zero, ℕ, ℤ, ◌*◌, ◌+ℤ◌, ◌+◌, ◌-◌, ◌<◌, ◌^◌, ◌||◌, ◌∙◌, ◌∷◌, ◌≡◌, ◌≤◌}
pub use Rattle.std.proofs.lemmas.Int.{ints}
pub use Rattle.worlds.specs.Square.{Square, four, one}
