-- The names that the proofs of this crate cite most, passed on from one place. It declares nothing.
pub use Rattle.plane_core.specs.Centre.{AreCentred, AreFilled, IsCentre, IsCorner, NoneEmpty, centred, cornered, is_alone, is_passed}
pub use Rattle.plane_core.specs.Counts.{Gains, HasRoom, IsTallied, held, is_any, is_live, is_state, row_square, tally}
pub use Rattle.plane_core.specs.Edges.{AreKids, HasLive, IsBand, NamesLive, depth, edge_kids, if_live, opposite}
pub use Rattle.plane_core.specs.Laid.{AddsTouching, AreLaidStates, AreQuadrants, AreStatesOf, AreThoseIn, IsAdded, IsClear, IsLaid, IsMade, IsNamed, IsRaised, Keeps, LiesIn, Touches, quadrant_of, renumbered, spans_of_runs, square_of}
pub use Rattle.plane_core.specs.Measured.{AreBoundsOf, AreCountsOf, IsLastCounted}
pub use Rattle.plane_core.specs.Part.{Covers, IsKid, IsPart, IsQuadrant, IsRoot, Shows, east, quadrant_at, south}
pub use Rattle.plane_core.specs.Rows.{AreCanonical, AreKept, AreRows, AreSquaresOf, Fits, IsLeastLevel, IsNumber, IsRow, Numbered, completed, edge_of, empty_row, kid, no_row, number_row, numbered, root_level, root_of, row_at, same_kids}
pub use Rattle.plane_core.specs.Rows.{same_row, square_in, world_of_rows, written}
pub use Rattle.plane_core.specs.Spans.{CanBeDrawn, cell_of, cells_of_span, cells_of_spans, drawn}
pub use Rattle.plane_core.specs.Strips.{AreAhead, AreBefore, AreExtended, AreLeft, IsBefore, IsBehind, IsEarlier, IsOnward, IsOutOfRow, IsReach, ends_before, number_at}
pub use Rattle.plane_core.specs.Walks.{AreWalked, Has, Remembers, Walks}
pub use Rattle.plane_core.specs.Within.{AreLiveWithin, Gathers, InFirst, IsLiveWithin, count_at}
pub use Rattle.plane_core.specs.Woven.{AreMade, AreMadeTo, AreNumbers, AreRowsOf, AreStripsOf, AreWoven, HasSquare, IsPair, IsStripOf, cell_at, sides_at}
pub use Rattle.plane_core.specs.declared.counts.Tally.{Tally}
pub use Rattle.plane_core.specs.declared.part.Part.{Part}
pub use Rattle.plane_core.specs.declared.row.SquareRow.{SquareRow}
pub use Rattle.plane_core.specs.declared.span.Span.{Span}
pub use Rattle.plane_core.specs.declared.strip.Strip.{Strip}
pub use Rattle.std.proofs.Common.{All, Bool, Bor, IfOk, IfSome, IsNone, IsPermutation, IsSortedByKey, IsTrue, Less, List, None, Option, Result, Some, [], add-one, ap, ap₂, arith, cond, count_by, drop, drop-cons, eqb, false, get_or}
pub use Rattle.std.proofs.Common.{get_or-set_other, get_or-set_same, inl, inr, int_le, int_lt, length, length-append, length-drop, lit<, map, nat_le, neg_ℤ, not, pos, pow-suc, pow_mono, refl, replicate, rules, set, slice_index, slice_set}
pub use Rattle.std.proofs.Common.{subst, subst₂, suc, sym, take, to_z-of_z, true, unsigned_abs, unwrap_or, zero, zero-add, ℕ, ℤ, ◌&&◌, ◌*◌, ◌++◌, ◌+ℤ◌, ◌+◌, ◌-ℤ◌, ◌-◌, ◌/◌, ◌<ℤ◌, ◌<◌, ◌==◌, ◌^◌, ◌||◌, ◌↔◌, ◌∙◌, ◌∷◌, ◌≡◌, ◌≤ℤ◌, ◌≤◌, ◌⊎◌}
pub use Rattle.std.proofs.lemmas.Bool.{and_from, and_parts, both_ways, cases_eq, cases_lt, cond-false, cond-true, cond_both, eq-eqb, eqb-true, false_from_ne_true, le-leb, lt-leb, lt-ltb, ltb-true, ne_eqb, or_cases, or_left, or_right}
pub use Rattle.std.proofs.lemmas.Bool.Decides.{nat_tests}
pub use Rattle.std.proofs.lemmas.Grind.{common_steps, flat_map-append, get_or_default_zero}
pub use Rattle.std.proofs.lemmas.Int.{by_lt_z, ints}
pub use Rattle.std.proofs.lemmas.List.{append-nil, append_assoc, drop_all, get_or-map, get_or-replicate, get_or_append_left, get_or_push, get_or_read, length-map, length-replicate, length-set, length-take-le, length_push, nil_from_length}
pub use Rattle.std.proofs.lemmas.List.{same_lists, take-append-drop, take-append-le, take_all, take_at, take_more}
pub use Rattle.std.proofs.lemmas.List.Elements.{All-append, All-cons, All-contains, All-drop, All-get_or, All-head, All-more, All-nil, All-tail, All-weaker, Contains-append_cases, Contains-append_left, Contains-append_right}
pub use Rattle.std.proofs.lemmas.List.Elements.{Contains-get_or, Contains-push, Contains-push_cases, recursion_from_All}
pub use Rattle.std.proofs.lemmas.List.Folds.{list_any-append, list_any_at, sum_by-replicate}
pub use Rattle.std.proofs.lemmas.List.FromFn.{get_or-range_with_len, map-range_with_len_more}
pub use Rattle.std.proofs.lemmas.List.Sorted.{All-permutation, answers_always, sum_by-IsPermutation}
pub use Rattle.std.proofs.lemmas.List.Sums.{count_by-le-length, count_by_more_yes, fails_before_first, passes_at_first, position_or_len_is, sum_by-append, sum_by-cons, sum_by-take-le, sum_by_more}
pub use Rattle.std.proofs.lemmas.Option.{get_or_from_slice_get, same_Some, slice_get-get_or, slice_get_within}
pub use Rattle.std.proofs.lemmas.Result.{IfOk-weaker, on_ok_weaker}
pub use Rattle.std.specs.List.{AllByRecursion, Contains, flat_map, list_all, list_any, position_or_len, range_with_len, slice_get, sum, sum_by}
pub use Rattle.std.specs.Ordering.{is_eq, is_lt, ordering_reverse}
pub use Rattle.worlds.specs.Fill.{is_same, same_is}
pub use Rattle.worlds.specs.Lay.{cell-lay, last_mention, lay, lay-append, lay-push}
pub use Rattle.worlds.specs.Live.{as_live, by_place, cell-state_at, count_of, live, live-entries, live-states, of_cell, place_of, population, state_at}
pub use Rattle.worlds.specs.Range.{AllBelow, HasMargin, Holds, IsBoundingBox, IsGreatest, IsInBox, cell-outside}
pub use Rattle.worlds.specs.Square.{IsIn, IsSquare, Square, cell_in, empty_square, four, one, put_square, square_at}
pub use Rattle.worlds.specs.World.{Place, World, blank, cell, cell-blank, cell-get, cell-put, entries-blank, place_cmp, places_exact, places_total, put, put-suc, same_place, same_place-itself, same_world, state_of}
pub use Rattle.worlds.specs.declared.cell.Bounds.{Bounds}
pub use Rattle.worlds.specs.declared.cell.Cell.{Cell}
