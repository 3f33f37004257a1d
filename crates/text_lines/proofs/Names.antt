-- The names that the proofs of this crate cite most, passed on from one place. It declares nothing.
pub use Rattle.basics.proofs.Shared.Lists.{all_append, all_so, push_not_nil}
pub use Rattle.std.proofs.Common.{All, Bool, List, None, Some, [], add-one, ap, append-nil, append_assoc, ap₂, arith, cond, decimal, drop, false, filter, get_or, length, length-append, map, min, nat_le, nat_lt, position, refl, rules, subst}
pub use Rattle.std.proofs.Common.{sym, take, tests, true, ℕ, ◌&&◌, ◌*◌, ◌++◌, ◌+◌, ◌-◌, ◌<◌, ◌==◌, ◌^◌, ◌||◌, ◌∙◌, ◌∷◌, ◌≡◌, ◌≢◌, ◌≤◌}
pub use Rattle.std.proofs.lemmas.Bool.Decides.{nat_tests}
pub use Rattle.std.proofs.lemmas.Grind.{common_steps}
pub use Rattle.std.proofs.lemmas.List.Elements.{All-from_recursion, recursion_from_All}
pub use Rattle.std.proofs.lemmas.List.Splits.{slice_split_at, slice_split_first, slice_split_none}
pub use Rattle.std.proofs.lemmas.List.Sums.{AllPass-from_list_all, fails_before_first}
pub use Rattle.std.specs.Char.{is_ascii_digit}
pub use Rattle.std.specs.List.{AllByRecursion, list_all, position_or_len, slice_split}
pub use Rattle.std.specs.Str.Parse.{AllDigits, digits_value}
pub use Rattle.text_lines.specs.Blanks.{IsBlank, before_end, is_blank, trim, trim_end, trim_start}
pub use Rattle.text_lines.specs.LineEnds.{text_of_lines, with_carriage_returns}
pub use Rattle.text_lines.specs.Lines.{End, NoLineFeed, full_line, last_line, line_len, lines_from, says, strip_carriage_return}
pub use Rattle.text_lines.specs.Lines.End.{Ended}
pub use Rattle.text_lines.specs.Numbers.{is_word, number_of, numbers_line}
