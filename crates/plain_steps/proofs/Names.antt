-- The names that the proofs of this crate cite most, passed on from one place. It declares nothing.
pub use Rattle.square_tree.specs.Cells.{Cells, IsHeld, state_at}
pub use Rattle.std.proofs.Common.{All, List, None, [], ap, append-nil, append_assoc, ap₂, arith, cond, false, get_or, inl, inr, is_some, length, lit<, map, negsuc, pos, refl, rules, subst, suc, sym, take}
pub use Rattle.std.proofs.Common.{to_z-of_z, true, unwrap_or, w64, zero, ℕ, ℤ, ◌++◌, ◌+ℤ◌, ◌+◌, ◌-ℤ◌, ◌<◌, ◌==◌, ◌∙◌, ◌∷◌, ◌≡◌, ◌≤ℤ◌, ◌≤◌}
pub use Rattle.std.proofs.lemmas.Bool.{and_parts, cases_Bool, eqb-true, or_cases, or_left, or_right}
pub use Rattle.std.proofs.lemmas.Int.{ints}
pub use Rattle.std.proofs.lemmas.List.{get_or-map, length-set, map-append, take_all, take_more, take_more_set}
pub use Rattle.std.proofs.lemmas.List.Elements.{All-from_recursion, All-get_or, All-map, All-nil, All-push, recursion_from_All}
pub use Rattle.std.proofs.lemmas.List.Folds.{list_any-append, list_any_at}
pub use Rattle.std.specs.List.{AllByRecursion, flat_map, list_any}
pub use Rattle.plain_steps.specs.Asked.{AsksMore, HasAsked, IsNoted, follows, listed_as}
pub use Rattle.plain_steps.specs.Generation.{AreTogether, IsKeptCell}
pub use Rattle.plain_steps.specs.Listed.{as_set}
pub use Rattle.plain_steps.specs.Room.{CellHasRoom, HasRoomAround}
pub use Rattle.plain_steps.specs.declared.asked.Asked.{Asked}
pub use Rattle.worlds.specs.Fill.{cell-fill, fill, fill-append, fill-none, fill-one, is_same, same_is}
pub use Rattle.worlds.specs.Lay.{cell-lay, last_mention, lay, lay-push}
pub use Rattle.worlds.specs.Live.{cell-state_at, live, live-states, of_cell}
pub use Rattle.worlds.specs.Range.{HasMargin, IsInside}
pub use Rattle.worlds.specs.Step.{around, cell-step, nine_zeros, places_around, step, step-fill}
pub use Rattle.worlds.specs.World.{Place, World, blank, cell, cell-blank, cell-live, cell-put, place_cmp, places_total, put, same_place, same_place-itself, same_world}
pub use Rattle.worlds.specs.declared.cell.CellSet.{CellSet}
