-- The names that the proofs of this crate cite most, passed on from one place. It declares nothing.
pub use Rattle.basics.proofs.Shared.Lists.{all_append, all_so}
pub use Rattle.basics.specs.Results.{◌>>=◌}
pub use Rattle.desk_script.proofs.Shared.Said.{AddsNone, Fits, LineFits, SetsSome, TakesNoRule, asks-fit}
pub use Rattle.desk_script.specs.Asks.{Ask, Between, InText, LinePlace, Obey, Refuse, Take, asked_at, asked_by, asks, place_behind}
pub use Rattle.desk_script.specs.Command.{adds_branch, format_of}
pub use Rattle.desk_script.specs.ReadsBack.{AreWritten, IsCount, IsWritten, IsWrittenCell, IsWrittenDistance, IsWrittenView}
pub use Rattle.desk_script.specs.declared.command.Command.{Command}
pub use Rattle.desk_script.specs.declared.fault.ScriptFault.TheVariants.{BadCommand, NoEnd}
pub use Rattle.desk_script.specs.declared.format.Format.{Format}
pub use Rattle.desk_server.specs.Answer.{After, Session, accepted, answer, edited, edited_as, id_word, listed, obeyed, only, opening_session, polled}
pub use Rattle.desk_server.specs.Answer.{refused, rule_text_after, scripted, session_after, settled, shown, shown_id, started, taken, unless_fault}
pub use Rattle.desk_server.specs.Answer.{unless_memory, unless_unread}
pub use Rattle.desk_server.specs.Faults.{Fault, of_edit, of_macrocell, of_pattern, of_rule, of_script}
pub use Rattle.desk_server.specs.Script.{afters, documents_of, documents_with, first_shortage, later_shortages}
pub use Rattle.desk_server.specs.Shortage.{AllCausedOver, IsCaused, IsCausedOver, Known, NoShortage, Shortage, Unsettled}
pub use Rattle.replay_laws.specs.Replay.{add_all, add_bookmark, add_branch, add_intervention, bookmark_edits, branch_edits, edits_for, ids_between, intervention_edits, row_edits, skip_bookmark, skip_branch, skip_intervention}
pub use Rattle.multistate_rle.specs.Pattern.{pattern_of}
pub use Rattle.plane_core.specs.declared.loaded.Loaded.{Loaded}
pub use Rattle.reply_laws.specs.Anew.{CanBeWritten, HasText, IsAccepted, IsMadeAnew, KeptTextsAreRules, MakesAnew, ScriptsMakeAnew, WhateverIsScriptedIsMadeAnew, last_plan, sessions}
pub use Rattle.rule_file.proofs.Shared.Readings.{some-ok, then-ok}
pub use Rattle.rule_file.specs.RuleFile.{NumberedLine, RuleFile, Section, after, file_of, is_name, is_name_byte, named, numbered_from, rule_name, section_of}
pub use Rattle.rule_file.specs.declared.fault.RuleFault.TheVariants.{BadTree, NoRuleLine}
pub use Rattle.rule_tree.specs.NamedRule.{NamedRule}
pub use Rattle.rule_tree.specs.Rule.{kind_by, kind_of, name_of, rule_of, states_of, states_of-still, states_of_kind, still}
pub use Rattle.rule_tree.specs.declared.rule.Kind.{Kind}
pub use Rattle.schedule.proofs.Shared.Changed.{HasStates, some_changed, sound_changed}
pub use Rattle.schedule.specs.Acts.{IsTimely, first_of}
pub use Rattle.schedule.specs.Asked.{Asked, Change, Insert, RemoveIntervention, ReplaceRule, ReplaceStart, asked_of}
pub use Rattle.schedule.specs.Change.{Changed, acting, change, changed, next_intervention, refusal, unless_refused}
pub use Rattle.schedule.specs.Plan.{Plan, opening}
pub use Rattle.schedule.specs.Sound.{AreMarked, AreNamed, ArePlaced, IsAllowed, IsForked, IsPlaced, IsSound, SetBelow}
pub use Rattle.schedule.specs.declared.branch.Branch.{Branch}
pub use Rattle.schedule.specs.declared.document.Bookmark.{Bookmark}
pub use Rattle.schedule.specs.declared.document.Intervention.{Intervention}
pub use Rattle.script_lines.specs.ScriptLine.{NoneEnds, is_end, is_passed_over, raw_bytes}
pub use Rattle.script_lines.specs.Words.{is_word, squashed, words}
pub use Rattle.std.proofs.Common.{Bool, FitsSigned, IsTrue, List, None, Ok, Option, Result, Some, [], ap, append-nil, append_assoc, arith, codes, cond, decimal, false, filter, flat_map, get_or, inl, inr, length, map, nat_le, nat_lt, not}
pub use Rattle.std.proofs.Common.{pos, refl, subst, suc, sym, true, w64, zero, ℕ, ℤ, ◌&&◌, ◌*◌, ◌++◌, ◌+◌, ◌-◌, ◌<◌, ◌==◌, ◌^◌, ◌∙◌, ◌∷◌, ◌≡◌, ◌≢◌, ◌≤◌, ◌⊎◌}
pub use Rattle.std.proofs.lemmas.Bool.Decides.{nat_tests}
pub use Rattle.std.proofs.lemmas.Int.{ints}
pub use Rattle.std.specs.List.{AllByRecursion, join_with_byte, list_all, onto_first, range_with_len, slice_split}
pub use Rattle.std.specs.Option.{ok_or, option_and_then, option_map, option_map_or}
pub use Rattle.text_lines.proofs.Shared.ByteRanges.{IsDigit, IsVisible, all_tested, differs, digit-visible, printed-tested, visible-printed}
pub use Rattle.text_lines.proofs.Shared.LineEnds.{line-first, no_line_feed-append}
pub use Rattle.text_lines.specs.LineEnds.{text_of_lines}
pub use Rattle.text_lines.specs.Lines.{End, Ended, Line, NoLineFeed, full_line, last_line, lines_from, lines_until, says}
pub use Rattle.text_lines.specs.RuleNames.{IsName, IsNameByte}
pub use Rattle.worlds.specs.Range.{AllBelow, HasMargin, IsInside}
pub use Rattle.worlds.specs.World.{World, blank}
