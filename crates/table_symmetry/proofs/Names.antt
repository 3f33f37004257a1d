-- The names that the proofs of this crate cite most, passed on from one place. It declares nothing.
pub use Rattle.rule_file.proofs.Shared.Readings.{then-ok}
pub use Rattle.rule_file.specs.declared.fault.RuleFault.TheVariants.{NotQuiescent, TooManyTransitions}
pub use Rattle.std.proofs.Common.{All, Bool, Err, Global, List, MatchOption, None, Ok, Option, Some, Vec, [], ap, append_assoc, arith, bit_and, cond, drop, false, find, get_or, if◌then◌else◌, inl, inr, length, map, min, nat_eq, nat_lt, not}
pub use Rattle.std.proofs.Common.{refl, replicate, rules, slice_get, slice_index, slice_index_or, subst, suc, sym, take, tests, true, unwrap_or, zero, zero-add, ℕ, ◌%◌, ◌&&◌, ◌*◌, ◌++◌, ◌+◌, ◌-◌, ◌/◌, ◌<◌, ◌==◌, ◌^◌, ◌||◌, ◌∙◌, ◌∷◌, ◌≡◌}
pub use Rattle.std.proofs.Common.{◌≢◌, ◌≤◌, ◌⊎◌}
pub use Rattle.std.proofs.Math.Bool.{and-true, or-true}
pub use Rattle.std.proofs.lemmas.Bool.{and_from, and_parts, cases_eq, cases_lt, eq-eqb, eqb-true, ne_eqb}
pub use Rattle.std.proofs.lemmas.Bool.Decides.{nat_tests}
pub use Rattle.std.proofs.lemmas.Grind.{flat_map-append}
pub use Rattle.std.proofs.lemmas.List.{append-nil, get_or-map, get_or_append_left, get_or_past, get_or_push, length-append, length-drop, length-map, length-reverse, length-take, length_push, map-append, nil_from_length, take_all, take_more}
pub use Rattle.std.proofs.lemmas.List.{take_rest}
pub use Rattle.std.proofs.lemmas.List.Elements.{All-get_or, All-map, filter-append}
pub use Rattle.std.proofs.lemmas.List.Folds.{length-flat_map-take, list_all-append, list_any-append, list_any_at}
pub use Rattle.std.proofs.lemmas.List.FromFn.{get_or-map-range_with_len, length-map-range_with_len, map-range_with_len_more}
pub use Rattle.std.proofs.lemmas.List.Sums.{AllPass-from_list_all, list_all-from_AllPass}
pub use Rattle.std.proofs.lemmas.Nat.Bits.{bit_at-lt, bit_at-trailing_zeros, bit_at-zero, bit_at_and, bit_at_ones, bit_at_or, bit_at_set_other, bit_at_set_same, shr_and_one}
pub use Rattle.std.proofs.lemmas.Option.{slice_get-get_or, slice_get_past}
pub use Rattle.std.proofs.lemmas.Result.{err_from_is_err_and}
pub use Rattle.std.specs.Int.{bit_at}
pub use Rattle.std.specs.List.{HoldsAt, drop-map, filter, flat_map, list_all, list_any, range_with_len, take-map}
pub use Rattle.std.specs.Option.{option_copied, option_map, option_or}
pub use Rattle.table_lines.specs.Lines.{lines_of}
pub use Rattle.table_lines.specs.Read.{IsRead}
pub use Rattle.table_lines.specs.States.{word_of}
pub use Rattle.table_lines.specs.declared.symmetry.Symmetry.{Symmetry}
pub use Rattle.table_lines.specs.declared.transition.Entry.{Entry}
pub use Rattle.table_lines.specs.declared.transition.Transition.{Transition}
pub use Rattle.table_lines.specs.declared.transition.Variable.{Variable}
pub use Rattle.table_symmetry.specs.Circle.{arrangements, insertions, mirrored, permutations, turned, turns}
pub use Rattle.table_symmetry.specs.Expanded.{all_have, distinct, expanded, expanded_of, expanded_one, first_match, same_sets, sets_of, transition_limit}
pub use Rattle.table_symmetry.specs.Generators.{PermuteTakesAllOrders, SymmetriesAreGenerated, east, eight_reversed, eighth, four_reversed, half, is_among, is_order, quarter, six_reversed, sixth, third, two_eighths, west}
pub use Rattle.table_symmetry.specs.Grown.{IsTooLong, lists_in, row_of, with_all, with_one}
pub use Rattle.table_symmetry.specs.Kept.{IsKeptTable}
pub use Rattle.table_symmetry.specs.Lookup.{HasBits, HasColumns, HaveBitsOf, HaveInputs, IsLookupOf, TellRows, TellsRows, row_has, set_at, word_of_each}
pub use Rattle.table_symmetry.specs.NextState.{admitted, all_admit, assigned, assignments, bound_in, bound_variables, first_result, given, gives_states, inputs_of, is_quiescent, matches, next, places_of, valued}
pub use Rattle.table_symmetry.specs.Rule.{is_sound}
pub use Rattle.table_symmetry.specs.States.{has, is_bit_set}
pub use Rattle.table_symmetry.specs.Table.{Table}
pub use Rattle.table_symmetry.specs.TableLines.{table_of, within_limits}
pub use Rattle.table_symmetry.specs.declared.expansion.Expanded.{Expanded}
pub use Rattle.worlds.specs.Step.{AreNineBelow, nine_zeros}
pub use lib.Pointwise.{bytes_decides, pointwise_decides}
pub use mir.Syntax.{w64}
