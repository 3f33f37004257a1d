-- The names that the proofs of this crate cite most, passed on from one place. It declares nothing.
pub use Rattle.dependency_book.specs.BookState.{BookState, NothingOut, expected, is_pending, opened, pending_of, row_of, text_known}
pub use Rattle.dependency_book.specs.Jobs.{IsFirstOut, SameBook, cancelled}
pub use Rattle.dependency_book.specs.RowState.{has_number, is_known, job_of, known, state_map}
pub use Rattle.dependency_book.specs.ShownRows.{shown_row, shown_rows}
pub use Rattle.dependency_book.specs.declared.shown.Shown.TheVariants.{Current, NoSuch}
pub use Rattle.desk_core.specs.declared.cause.Cause.{Cause}
pub use Rattle.desk_script.specs.Asks.{Ask, Between, Obey, Refuse, Take, asks}
pub use Rattle.desk_script.specs.Heard.{AsksIfAny, BreaksOff, CanLackMemory, Hears, IsReadAs}
pub use Rattle.desk_server.specs.Listed.{bookmark_line, branch_line, intervention_line, lines_of, listed_text}
pub use Rattle.desk_script.specs.Parts.{part_text}
pub use Rattle.desk_script.specs.declared.command.Command.{Command}
pub use Rattle.desk_script.specs.declared.fault.ScriptFault.{ScriptFault}
pub use Rattle.desk_script.specs.declared.format.Format.{Format}
pub use Rattle.desk_script.specs.declared.request.Request.{Request}
pub use Rattle.desk_server.specs.Answer.{After, Session, accepted, answer, edited, edited_as, no_memory, only, opening_session, polled, refused, rule_text_after, scripted, session_after, settled, shown_id, started, taken, unless_fault}
pub use Rattle.desk_server.specs.Answer.{unless_memory, unless_unread, id_word}
pub use Rattle.desk_server.specs.Desks.{AnswersAtDesks, AnswersAtEach, AnswersOver, ComputedFor, IsLeftBy, IsOpened, LeavesDesk, MeansEdit, RevisedOrSame, Standing, TakenOrSame, standing}
pub use Rattle.desk_server.specs.Ending.{Completes, Works}
pub use Rattle.desk_server.specs.Faults.{Fault, of_edit, of_macrocell, of_pattern, of_rule, of_script}
pub use Rattle.desk_server.specs.Jobs.{CarriesOn, DropsJobs, IsDoneWith, IsFresh, KeepsCalls, KeepsCauses, PostMatchesDesk}
pub use Rattle.desk_server.specs.Reply.{pending_text, refused_text, scripted_text}
pub use Rattle.desk_server.specs.Run.{Answers, AnswersAll, AnswersAllOver, AnswersFront, AnswersWhole, Finishes, StopsTelling}
pub use Rattle.desk_server.specs.Script.{Answered, afters, answered, answered_by, answered_with, but_bye, first_shortage, later_shortages, replies_to, replies_with, texts_of, told_to, unless_bye}
pub use Rattle.desk_server.specs.Served.{AnswersRequest, GivesAnswer, GivesAnswerBy, KeepsTaken, KeepsText, IsShortOf, MayWant, Served, TakesBytes, TakesText, answer_to_text, kept_text, session}
pub use Rattle.desk_server.specs.Shortage.{AllCausedOver, IsCaused, Known, Memory, NoShortage, Pending, Shortage, Still, Unread, Unsettled}
pub use Rattle.desk_server.specs.Told.{AllKnown, IsRefused, LeavesOver, PollsBy, TakesAnswers, TellsPending, ends, has_text, reply_text, row_line, shown_text}
pub use Rattle.desk_server.specs.Watch.{AsksForAnswers, Draws, HasToCompute, Moment, NotesEach, NotesFront, NotesReplies, NotesRun, NotesScript, PublishedOrCounted, WatchesNext, WatchesReply, moment}
pub use Rattle.desk_server.specs.declared.reply.Reply.{Reply}
pub use Rattle.revision_jobs.specs.Answer.{JobResult}
pub use Rattle.revision_jobs.specs.Posted.{PostView}
pub use Rattle.schedule.specs.Asked.{Asked, ReplaceRule, ReplaceStart, asked_of}
pub use Rattle.schedule.specs.Change.{Changed, change, changed, refusal, unless_refused}
pub use Rattle.schedule.specs.Plan.{Plan, opening}
pub use Rattle.schedule.specs.declared.document.Bookmark.{Bookmark}
pub use Rattle.schedule.specs.declared.edit.Edited.{Edited}
pub use Rattle.schedule.specs.declared.fault.EditFault.TheVariants.{NoMemory}
pub use Rattle.schedule.specs.declared.fault.EditFault.{EditFault}
pub use Rattle.script_lines.proofs.Shared.Told.{IsUnderWay, front_first, front_then, wrote_err, wrote_is_err, wrote_is_ok}
pub use Rattle.script_lines.specs.Faults.{AppendsFront, Wrote}
pub use Rattle.script_lines.specs.declared.kept_text.KeptText.{KeptText}
pub use Rattle.std.proofs.Common.{Bool, Err, IfNone, IfSome, IsSome, List, None, Ok, Option, Result, Some, [], ap, append-nil, append_assoc, arith}
pub use Rattle.std.proofs.Common.{codes, cond, count_by, decimal, drop, false, flat_map, get_or, inl, inr, is_some, length, map, not, refl}
pub use Rattle.std.proofs.Common.{rules, subst, suc, sym, true, zero, zip, ℕ, ◌++◌, ◌+◌, ◌-◌, ◌<◌, ◌==◌, ◌^◌, ◌∙◌, ◌∷◌, ◌≡◌, ◌≢◌, ◌≤◌, ◌⊎◌}
pub use Rattle.std.proofs.lemmas.Bool.{cond-true}
pub use Rattle.std.proofs.lemmas.Bool.Decides.{nat_tests}
pub use Rattle.std.specs.Io.KnownBytes.{Appends, Consumes, IsAtEnd}
