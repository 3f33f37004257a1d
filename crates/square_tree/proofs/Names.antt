-- The names that the proofs of this crate cite most, passed on from one place. It declares nothing.
pub use Rattle.square_tree.specs.Cells.{Cells, IsPartlyOverlaid, SpansSquare, least, overlaid, put, reach, row_states, state_at, window_states}
pub use Rattle.square_tree.specs.Entries.{cells_of_tree, entries}
pub use Rattle.square_tree.specs.Laid.{IsAligned, IsLaid, IsPartlyLaid, at_from}
pub use Rattle.square_tree.specs.Over.{IsPartlyOver, over}
pub use Rattle.square_tree.specs.Place.{Place, place_cmp, same_place}
pub use Rattle.square_tree.specs.Quadtree.{HasLevel, Quadtree, at, cell, keep, quad, quadtree}
pub use Rattle.square_tree.specs.TreeOf.{IsTreeOf}
pub use Rattle.std.proofs.Common.{Bool, Err, List, None, Ok, OnErr, OnOk, Option, Result, SFits, Some, [], ap, append-nil, append_assoc, ap₂, arith, cond, false, inl, inr, map, nat_lt, negsuc, of_z, pos, refl, rules, subst, suc, sym, to_z}
pub use Rattle.std.proofs.Common.{true, unwrap_or, w64, zero, ℕ, ℤ, ◌*◌, ◌++◌, ◌+ℤ◌, ◌+◌, ◌-ℤ◌, ◌-◌, ◌/◌, ◌<ℤ◌, ◌<◌, ◌^◌, ◌||◌, ◌∙◌, ◌∷◌, ◌≡◌, ◌≤◌, ◌⊎◌}
pub use Rattle.std.proofs.Math.Pow.{pow_mono}
pub use Rattle.std.proofs.lemmas.Bool.Decides.{nat_tests}
pub use Rattle.std.proofs.lemmas.Int.{ints, to_z-of_z}
pub use Rattle.std.proofs.lemmas.Nat.{pow-add, pow_pos}
pub use Rattle.std.specs.FinMap.Entries.{find}
pub use Rattle.std.specs.Option.{option_or}
