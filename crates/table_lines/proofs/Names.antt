-- The names that the proofs of this crate cite most, passed on from one place. It declares nothing.
pub use Rattle.basics.proofs.Shared.Lists.{all_append, all_so}
pub use Rattle.basics.specs.Results.{◌>>=◌}
pub use Rattle.rule_file.proofs.Shared.Readings.{GivesToo, WantsNone, handed_on, ok_or-too, same_value, some-ok, then-ok, then_too, unless-too}
pub use Rattle.rule_file.proofs.Shared.WrittenFiles.{IsPlain, IsPlainLine, IsSolid, digit-plain, digit-solid, file-written, solid-line, solid-tested, within-read}
pub use Rattle.rule_file.specs.RuleFile.{NumberedLine, numbered_from}
pub use Rattle.rule_file.specs.States.{MayHaveStates, least_states, most_states, states_in}
pub use Rattle.rule_file.specs.declared.fault.RuleFault.{RuleFault}
pub use Rattle.rule_file.specs.declared.fault.RuleFault.TheVariants.{BadVariable, StateTooHigh}
pub use Rattle.std.proofs.Common.{Bool, Err, IfSome, List, None, Ok, Option, Result, Some, [], ap, append-nil, append_assoc, ap₂, arith, codes, cond, count_by, decimal, drop, eqb, false, find, get_or, get_or-set_other, if◌then◌else◌, inl}
pub use Rattle.std.proofs.Common.{inr, is_some, length, length-append, map, nat_eq, nat_le, nat_lt, not, option_and_then, position, refl, rules, slice_index_or, subst, suc, sym, take, true, zero, ℕ, ◌%◌, ◌&&◌, ◌*◌, ◌++◌, ◌+◌, ◌-◌, ◌/◌, ◌<◌}
pub use Rattle.std.proofs.Common.{◌==◌, ◌^◌, ◌||◌, ◌∙◌, ◌∷◌, ◌≡◌, ◌≤◌}
pub use Rattle.std.proofs.Math.Bool.{and-false, and-true, or-false, or-true}
pub use Rattle.std.proofs.Math.ListN.{get_or-append, length-set, set}
pub use Rattle.std.proofs.Math.Seq.{drop-append-add, drop-append_seam, get_or-append_seam, take-append_seam}
pub use Rattle.std.proofs.lemmas.Bool.{and_parts, cases_eq, eq-eqb, eqb-true}
pub use Rattle.std.proofs.lemmas.Bool.Decides.{nat_tests, same_from_decides}
pub use Rattle.std.proofs.lemmas.Grind.{common_steps, get_or-set_at}
pub use Rattle.std.proofs.lemmas.List.{drop_more, length-map, length-take-le, map-id}
pub use Rattle.std.proofs.lemmas.List.Elements.{All-from_recursion, All-take, recursion_from_All}
pub use Rattle.std.proofs.lemmas.List.Splits.{length-slice_split, slice_split_at, slice_split_none}
pub use Rattle.std.proofs.lemmas.Nat.{or_lt}
pub use Rattle.std.proofs.lemmas.Nat.Bits.{bit_at-lt, bit_at-suc, bit_at-zero, bit_at_lowest, bit_at_or, bit_at_set_other, bit_at_set_same, shr_and_one}
pub use Rattle.std.proofs.lemmas.Slice.Eq.{bytes_eq-Decides, slice_eq-Decides}
pub use Rattle.std.specs.Cmp.Lexicographic.{pointwise}
pub use Rattle.std.specs.Int.{bit_at}
pub use Rattle.std.specs.List.{All, AllByRecursion, filter, join_with_byte, list_all, list_any, range_with_len, slice_split}
pub use Rattle.std.specs.Option.{ok_or, option_map, option_map_or}
pub use Rattle.std.specs.Str.{bytes_eq}
pub use Rattle.table_lines.specs.Below.{VariablesBelow, admits_below, all_below, entry_below}
pub use Rattle.table_lines.specs.Definitions.{member_set, unless_too_high, variables_of}
pub use Rattle.table_lines.specs.Descriptors.{Described, describe, descriptor_named, descriptor_of, head_from, head_of, undescribed}
pub use Rattle.table_lines.specs.Entries.{behind}
pub use Rattle.table_lines.specs.Fields.{fields, parts, single_bytes}
pub use Rattle.table_lines.specs.LineLaws.{DescriptorsInAnyOrder, NumbersDoNotMatter, TablesOfLinesAreWritten, WrittenIsItsFile, WrittenTablesAreRead, is_descriptor}
pub use Rattle.table_lines.specs.Neighborhood.{neighborhood_named, places_of}
pub use Rattle.table_lines.specs.StateWords.{has-rising, rising-agree, rising_none, rising_one, word-kept, words-kept}
pub use Rattle.table_lines.specs.States.{AreWords, has, is_bit_set, rising, same_set, words_of}
pub use Rattle.table_lines.specs.Symmetry.{name_of_symmetry, symmetries_of, symmetry_named}
pub use Rattle.table_lines.specs.Table.{Table, headed}
pub use Rattle.table_lines.specs.Transitions.{entry_of, is_free, is_full, transition_from, transition_of, transitions_of}
pub use Rattle.table_lines.specs.Variables.{Variables, are_below, defines_variable, definition_in, each, is_variable_byte, is_variable_name, member_states, no_variables, set_of, states_or_fault, unbraced, union, variables_after}
pub use Rattle.table_lines.specs.Variables.{with_definition}
pub use Rattle.table_lines.specs.WrittenTable.{IsEntryOf, IsSet, IsTransitionOf, definition_line, definition_lines, entry_text, name_of_neighborhood, set_text, transition_line, variable_name, written_lines}
pub use Rattle.table_lines.specs.declared.descriptors.Descriptor.{Descriptor}
pub use Rattle.table_lines.specs.declared.descriptors.Head.{Head}
pub use Rattle.table_lines.specs.declared.neighborhood.Neighborhood.{Neighborhood}
pub use Rattle.table_lines.specs.declared.symmetry.Symmetry.{Symmetry}
pub use Rattle.table_lines.specs.declared.transition.Entry.{Entry}
pub use Rattle.table_lines.specs.declared.transition.Entry.TheVariants.{OneOf, State}
pub use Rattle.table_lines.specs.declared.transition.Transition.{Transition}
pub use Rattle.text_lines.proofs.Shared.ByteRanges.{IsDigit, IsPrinted, IsVisible, all_tested, differs, digit-test, digit-visible, printed-tested, visible-printed, visible-tested}
pub use Rattle.text_lines.proofs.Shared.Decimals.{IsWide, decimal-bytes, decimal-some, number_of-decimal}
pub use Rattle.text_lines.proofs.Shared.Pieces.{position-at, split-none, split-some}
pub use Rattle.text_lines.proofs.Shared.PrintedLines.{ends-append, ends-visible, line-between, line-visible, trim-blank}
pub use Rattle.text_lines.specs.Blanks.{trim}
pub use lib.Pointwise.{bytes_decides}
