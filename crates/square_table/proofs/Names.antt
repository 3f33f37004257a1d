-- The names that the proofs of this crate cite most, passed on from one place. It declares nothing.
pub use Rattle.plane_core.proofs.Shared.Adding.{IfOk_then}
pub use Rattle.plane_core.proofs.Shared.Cells.{IsSquare-parts, cell_in-one, in_or_out, offsets, put_square-below, put_square-inside, put_square-outside, same_square, square_at-IsSquare, square_at-cells, square_at-suc}
pub use Rattle.plane_core.proofs.Shared.Numbering.{Grows-more, Grows-then, Has-again, Has-grown, not_found, number_row-empty, number_row-grows, number_row-is, number_square-grows}
pub use Rattle.plane_core.proofs.Shared.Roots.{root-IsSquare, root_level-none, root_level-some, rooted, world-root}
pub use Rattle.plane_core.proofs.Shared.Sound.{AreRows-none, EachHas, EachHas-none, IsNumber-level, IsSound, each_of_four, found_at, found_within, listed-number, number_square-sound, quadrants-sound, row_kept, row_of, square_in-grown}
pub use Rattle.plane_core.proofs.Shared.Sound.{square_in-none, square_in-row, square_in-state, state-IsNumber, walks-quadrants}
pub use Rattle.plane_core.proofs.Shared.Tidy.{IsListed, number_square-levels}
pub use Rattle.plane_core.specs.Centre.{centred}
pub use Rattle.plane_core.specs.Rows.{AreCanonical, AreRows, AreSquaresOf, Fits, Numbered, completed, kid, no_row, number_row, numbered, root_level, root_of, same_kids, same_row, world_of_rows, written}
pub use Rattle.plane_core.specs.declared.row.SquareRow.{SquareRow}
pub use Rattle.square_table.specs.Centred.{CentredAlike, IsCentred, edge}
pub use Rattle.square_table.specs.Loading.{AreBlanks, AreLoaded, CellsBelow, GrowsFor, GrowsFrom, HasRows, IsLoadedAt, IsLoading, IsRootLevel, LevelsUpTo, empty_below, number_in, row_square}
pub use Rattle.square_table.specs.Made.{Adds, AreAmong, HasEmpty, IsAmong, IsMade}
pub use Rattle.square_table.specs.Packing.{IsPacking, IsPadded, IsSeen, Packs, WalksFour, square_by}
pub use Rattle.square_table.specs.Renumbering.{Stamps, known_of, known_range, with_known}
pub use Rattle.square_table.specs.Rows.{kids_in, kids_of, note_in, note_range, notes_of}
pub use Rattle.square_table.specs.Slots.{FindsRows, IsFreeFor, IsUsed, LeadsTo, first_of, mark_of, next_of, row_in, tag_in, tag_of, way}
pub use Rattle.square_table.specs.Squares.{AllStatesBelow, AreDistinct, AreFour, AreNumbers, Grows, GrowsBy, IsNumber, IsSquareOf, Lacks, NumbersTellSquares, Table, Tells, cells_of, first_number, joined, kid_at, kids_at, level_of}
pub use Rattle.square_table.specs.Squares.{number_of, square_in, square_of, with_note, with_row, without_notes}
pub use Rattle.square_table.specs.declared.pack.Quarters.{Quarters}
pub use Rattle.square_table.specs.declared.row.Row.{Row}
pub use Rattle.square_table.specs.declared.slots.Slot.{Slot}
pub use Rattle.std.proofs.Common.{Bool, Contains, IfSome, List, None, Option, Some, [], add-one, ap, ap₂, arith, drop, false, get_or, inl, inr, length, lit<, map, neg_ℤ, pos, refl, replicate, rules, slice_get}
pub use Rattle.std.proofs.Common.{slice_index_or, slice_set, subst, suc, sym, take, true, zero, ℕ, ℤ, ◌%◌, ◌*◌, ◌++◌, ◌+ℤ◌, ◌+◌, ◌-◌, ◌/◌, ◌<◌, ◌^◌, ◌∙◌, ◌∷◌, ◌≡◌, ◌≤◌, ◌⊎◌}
pub use Rattle.std.proofs.lemmas.Bool.{cases_eq, cases_lt, eqb-true, le-leb}
pub use Rattle.std.proofs.lemmas.Grind.{common_steps}
pub use Rattle.std.proofs.lemmas.Int.{ints}
pub use Rattle.std.proofs.lemmas.List.{append_assoc, get_or-map, get_or-set_other, get_or-set_same, get_or_append_left, get_or_default, get_or_push, get_or_read, length-append, length-map, length-replicate, length-set, length_push, map-set}
pub use Rattle.std.proofs.lemmas.List.{map_push, nil_from_length, replicate-append-replicate, set-append_left, set-get_or}
pub use Rattle.std.proofs.lemmas.Slice.Eq.{bytes_eq-Decides}
pub use Rattle.std.specs.List.{list_any, position_or_len}
pub use Rattle.worlds.specs.Range.{AllBelow, HasMargin}
pub use Rattle.worlds.specs.Square.{IsIn, IsSquare, Square, cell_in, empty_square, four, one, put_square, square_at}
pub use Rattle.worlds.specs.World.{World, blank, cell-blank, same_world}
