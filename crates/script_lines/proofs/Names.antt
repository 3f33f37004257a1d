-- The names that the proofs of this crate cite most, passed on from one place. It declares nothing.
pub use Rattle.basics.proofs.Shared.Lists.{push_not_nil}
pub use Rattle.script_lines.specs.Ahead.{Ahead, IsDrawn, LineReading, TakesBytes}
pub use Rattle.script_lines.specs.Input.{IsDrained, ahead, bytes_left, left}
pub use Rattle.script_lines.specs.KeptLine.{Holds, IsRest, KeepsBy, Saw, Says, TakesLine, Took, ends_in_space, raw_of, squash, waiting}
pub use Rattle.script_lines.specs.Script.{EndsHere, LineTaken, MayFollow, NoEndAmong, StopsInLine, TakesInto, TextTaken, next_number}
pub use Rattle.script_lines.specs.ScriptLine.{NoneEnds, is_end, is_passed_over, raw_bytes}
pub use Rattle.script_lines.specs.KeptText.{GrowsText, IsText, len_of}
pub use Rattle.script_lines.specs.Words.{is_word, squashed, starts_in_word, words}
pub use Rattle.script_lines.specs.declared.kept_line.KeptLine.{KeptLine}
pub use Rattle.script_lines.specs.declared.kept_line.Tail.TheVariants.{Blank, Cut, Whole}
pub use Rattle.std.proofs.Common.{Bool, Err, IsErr, List, None, Ok, OnErr, Option, Result, Some, [], add-zero, ap, append-nil, append_assoc, arith, cond, drop, eqb-true, false, filter, get_or, is_err, length, length-append, length-drop}
pub use Rattle.std.proofs.Common.{refl, rules, slice_range, subst, suc, sym, take, take-append-drop, true, zero, ℕ, ◌++◌, ◌+◌, ◌-◌, ◌<◌, ◌==◌, ◌^◌, ◌||◌, ◌∙◌, ◌∷◌, ◌≡◌, ◌≢◌, ◌≤◌}
pub use Rattle.std.proofs.KnownBytes.{Consumes-kept, Consumes-nil, Consumes-trans, prepend_known-nil}
pub use Rattle.std.proofs.lemmas.Grind.{common_steps}
pub use Rattle.std.proofs.lemmas.List.{get_or-drop, length-take, take-append-le, take_more}
pub use Rattle.std.specs.Io.KnownBytes.{Appends, Consumes, IsAtEnd, Keeps, prepend_known}
pub use Rattle.std.specs.List.{join_with_byte, onto_first, slice_get, slice_split}
pub use Rattle.std.specs.Option.{option_copied, option_map}
pub use Rattle.text_lines.proofs.Shared.Trims.{before_end-more, trim_end-push, trim_end-push_blank}
pub use Rattle.text_lines.specs.Blanks.{IsTrimmed, StartsSolid, before_end, is_blank, trim, trim_end, trim_start}
pub use Rattle.text_lines.specs.Lines.{Broken, Ended, NoLineFeed, full_line, last_line, lines_from, lines_until, strip_carriage_return}
