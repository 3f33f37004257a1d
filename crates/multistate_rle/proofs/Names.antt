-- The names that the proofs of this crate cite most, passed on from one place. It declares nothing.
pub use Rattle.basics.proofs.Shared.Lists.{all_append, all_so}
pub use Rattle.basics.proofs.Shared.Tests.{first, no_place, second, some_place}
pub use Rattle.basics.specs.Results.{Gives, ◌>>=◌}
pub use Rattle.multistate_rle.specs.Comments.{after_comment, after_part, coordinate_of, generation_in, is_sign, parts, place_in, plain_origin, signed_of, tight}
pub use Rattle.multistate_rle.specs.Cut.{begins_with, cut_at}
pub use Rattle.multistate_rle.specs.Drawing.{Drawn, IsLike, WantsAlone, after_cells, after_rows, capped, strip_at, undrawn, with_strip, world_drawn}
pub use Rattle.multistate_rle.specs.Frame.{box_of, box_with, frame_of, grown}
pub use Rattle.multistate_rle.specs.Head.{head_from, is_placed}
pub use Rattle.multistate_rle.specs.Header.{name_after_width, rule_name, size_in, value_in}
pub use Rattle.multistate_rle.specs.Pattern.{HasNoFaultAnywhere, IsFaultAnywhere, Run, Strip, cell_at, cells_of_strip, drawn_by, is_in_range, lies_inside, live_count, onto, pattern_of, runs_from, strips_from, unplaced, world_of}
pub use Rattle.multistate_rle.specs.Pattern.Run.{Cells, RowEnds}
pub use Rattle.multistate_rle.specs.PatternText.{framed_text, packed}
pub use Rattle.multistate_rle.specs.Symbols.{is_passed, is_prefix, plain_symbol, prefixed_state, prefixed_symbol, solid_from, symbols}
pub use Rattle.multistate_rle.specs.Token.{behind, count_text, distance, joined, multi_state_text, prefix_text, state_text, token_text, tokens, two_state_text, way, way_by, zeros}
pub use Rattle.multistate_rle.specs.Writing.{finished, tokens_on}
pub use Rattle.multistate_rle.specs.declared.comment.Origin.{Origin}
pub use Rattle.multistate_rle.specs.declared.fault.RleFault.{RleFault}
pub use Rattle.multistate_rle.specs.declared.fault.RleFault.TheVariants.{CellOutOfRange, NoMemory, TooManyLive}
pub use Rattle.multistate_rle.specs.declared.frame.Frame.{Frame}
pub use Rattle.multistate_rle.specs.declared.symbol.Symbol.{Symbol}
pub use Rattle.multistate_rle.specs.declared.symbol.Symbol.TheVariants.{Cell, Digit, End, RowEnd, Unknown}
pub use Rattle.multistate_rle.specs.declared.token.Token.{Token}
pub use Rattle.plane_core.specs.Spans.{cells_of_span, cells_of_spans}
pub use Rattle.std.proofs.Common.{Bool, Err, IfSome, IsOk, List, MatchOption, None, Ok, OnOk, Option, Ordering, Result, SFits, Some, T, [], ap, append-nil, append_assoc, ap₂, arith, bytes_eq, codes, cond, decimal, drop, drop_of_length-le}
pub use Rattle.std.proofs.Common.{false, fold, get_or, inl, inr, int_le, int_lt, is_err, length, length-append, map, max, min, nat_le, nat_lt, neg_ℤ, negsuc, not, of_z, pos, position, refl, rules, subst, suc, sym, take, tests, to_z, true}
pub use Rattle.std.proofs.Common.{unsigned_abs, unwrap_or, w64, zero, ℕ, ℤ, ⊎_elim, ◌%◌, ◌&&◌, ◌*◌, ◌++◌, ◌+ℤ◌, ◌+◌, ◌-ℤ◌, ◌-◌, ◌/◌, ◌<ℤ◌, ◌<◌, ◌==◌, ◌^◌, ◌∙◌, ◌∷◌, ◌≡◌, ◌≢◌, ◌≤ℤ◌, ◌≤◌, ◌⊎◌}
pub use Rattle.std.proofs.Math.Seq.{drop-append-add, drop-append_seam, drop-length, take-append_seam, take-length}
pub use Rattle.std.proofs.lemmas.Bool.{and_parts, and_right, both_ways, cases_lt, cond-true, eqb-true, not-true, or_from, or_right}
pub use Rattle.std.proofs.lemmas.Bool.Decides.{nat_tests}
pub use Rattle.std.proofs.lemmas.Grind.{common_steps, flat_map-append, fold-append}
pub use Rattle.std.proofs.lemmas.Int.{by_lt_z, ints}
pub use Rattle.std.proofs.lemmas.List.{flat_map_more, length-map, take_more}
pub use Rattle.std.proofs.lemmas.List.Elements.{All-from_recursion}
pub use Rattle.std.proofs.lemmas.List.Sums.{passes_at_first, sum_by-cons, sum_by_push}
pub use Rattle.std.proofs.lemmas.Result.{IfOk-equal, on_ok_weaker}
pub use Rattle.std.specs.Fmt.{signed_decimal}
pub use Rattle.std.specs.List.{All, AllByRecursion, flat_map, list_all, position_or_len, range_with_len}
pub use Rattle.text_lines.proofs.Shared.ByteRanges.{IsDigit, IsPrinted, IsVisible, all_tested, differs, is_printed, is_visible, printed-tested, visible-printed, visible-solid, visible-tested}
pub use Rattle.text_lines.proofs.Shared.Decimals.{decimal-bytes, decimal-some, decimal-value, number_of-decimal}
pub use Rattle.text_lines.proofs.Shared.PrintedLines.{IsLine, ends-append, ends-behind, ends-visible, name-visible, printed-one, strip-printed, trim-blank}
pub use Rattle.text_lines.specs.Blanks.{is_blank, trim}
pub use Rattle.text_lines.specs.Lines.{Line, full_line, line_len, lines, lines_from, strip_carriage_return}
pub use Rattle.text_lines.specs.Lines.End.{Ended}
pub use Rattle.text_lines.specs.RuleNames.{IsName, IsNameByte}
pub use Rattle.worlds.specs.Lay.{cell-lay, last_mention, lay}
pub use Rattle.worlds.specs.Live.{as_live, by_place, cell-state_at, live, live-entries, live-states, of_cell, place_of, state_at}
pub use Rattle.worlds.specs.Range.{HasMargin, IsBoundingBox, IsInBox, IsInside}
pub use Rattle.worlds.specs.World.{Place, World, blank, cell, cell-blank, entries-blank, place_cmp, same_place, same_world}
pub use Rattle.worlds.specs.declared.cell.CellSet.{CellSet}
