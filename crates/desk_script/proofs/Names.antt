-- The names that the proofs of this crate cite most, passed on from one place. It declares nothing.
pub use Rattle.bookmarks.specs.declared.view.View.{View}
pub use Rattle.desk_script.specs.Asks.{Ask, Between, InText, LinePlace, Obey, Refuse, Take, asked_at, asked_by, asks, place_behind, without_end}
pub use Rattle.desk_script.specs.Command.{acting_of, adds_branch, before, cell_of, cells_said, cells_set, change_of, command_by, command_of, command_of_words, count_of, counted, edit_by, edit_in_branch, edit_in_named}
pub use Rattle.desk_script.specs.Command.{format_of, format_of_words, further_edit_by, inserted, looking_by, on_of, once_by, once_of, one_count, repeated_by, repeated_of, some_cells, start_of}
pub use Rattle.desk_script.specs.Heard.{BreaksOff, CanLackMemory, Hears, IsReadAs, LineCanLackMemory}
pub use Rattle.desk_script.specs.Parts.{part_text}
pub use Rattle.desk_script.specs.ReadsBack.{AreCounts, AreWritten, EditLinesReadBack, IsCount, IsWrittenCell, IsWrittenDistance, IsWrittenView, ReadsBack}
pub use Rattle.desk_script.specs.Scripted.{cell_words, edit_line, edit_lines, rule_lines, script_text, skip_lines, start_lines, view_words}
pub use Rattle.desk_script.specs.View.{alone, view_of}
pub use Rattle.desk_script.specs.declared.command.Command.{Command}
pub use Rattle.desk_script.specs.declared.format.Format.{Format}
pub use Rattle.replay_laws.specs.Replay.{add_all, add_bookmark, add_branch, add_intervention, ids_between, skip_bookmark, skip_branch, skip_intervention}
pub use Rattle.schedule.specs.Asked.{AddBookmark, AddBranch, Asked, Change, Insert, RemoveBookmark, RemoveBranch, RemoveIntervention, ReplaceRule, asked_of}
pub use Rattle.schedule.specs.Ids.{bookmark_id, branch_id, intervention_id}
pub use Rattle.schedule.specs.declared.acts.Acts.TheVariants.{Every, Once}
pub use Rattle.schedule.specs.declared.document.Intervention.{Intervention}
pub use Rattle.schedule.specs.declared.edit.Edit.{Edit}
pub use Rattle.script_lines.proofs.Shared.Known.{on_err}
pub use Rattle.script_lines.proofs.Shared.Told.{IsUnderWay, front_first, front_then, wrote_err}
pub use Rattle.script_lines.specs.Faults.{AppendsFront, Wrote}
pub use Rattle.script_lines.specs.Script.{LineTaken, MayFollow, NoEndAmong, ReadsText, TextTaken}
pub use Rattle.script_lines.specs.ScriptLine.{NoneEnds, is_end, is_passed_over, raw_bytes}
pub use Rattle.script_lines.specs.Words.{is_word, squashed, words}
pub use Rattle.std.proofs.Common.{All, Bool, Err, FitsSigned, IfOk, IfSome, List, None, Ok, OnErr, OnOk, Option, Result, Some, [], ap, append-nil, append_assoc, ap₂, arith, codes, cond, decimal, drop, false, flat_map, get_or, length}
pub use Rattle.std.proofs.Common.{length-append, min, negsuc, pos, refl, rules, subst, suc, sym, true, w64, zero, ℕ, ℤ, ◌++◌, ◌+◌, ◌-◌, ◌<◌, ◌==◌, ◌^◌, ◌∙◌, ◌∷◌, ◌≡◌, ◌≤◌}
pub use Rattle.std.specs.Io.KnownBytes.{Appends, IsAtEnd}
pub use Rattle.std.specs.List.{AllByRecursion, join_with_byte, list_all, range_with_len}
pub use Rattle.std.specs.Option.{option_map, option_zip}
pub use Rattle.std.specs.Str.{bytes_eq}
pub use Rattle.text_lines.specs.Lines.{Broken, End, Ended, Line, full_line, lines_until}
pub use Rattle.worlds.specs.declared.cell.CellSet.{CellSet}
