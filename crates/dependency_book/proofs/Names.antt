-- The names that the proofs of this crate cite most, passed on from one place. It declares nothing.
pub use Rattle.dependency_book.specs.BookState.{BookState, NothingOut, arrival_known, arrival_row, empty_rows_of, expected, is_pending, opened, pending_of, row_of, text_row, with_facts, with_refusal}
pub use Rattle.dependency_book.specs.BookState.{SameButFacts, SameFacts}
pub use Rattle.dependency_book.specs.Called.{IsCancel, IsCollect, IsEdit, IsIssue, TakesAnswer}
pub use Rattle.dependency_book.specs.Core.{core_of, plain_row}
pub use Rattle.dependency_book.specs.Cursor.{HasPassed, IsKeptBook, start}
pub use Rattle.dependency_book.specs.Entered.{IsEntryOf, StepsTo, ViewsOf}
pub use Rattle.dependency_book.specs.Felt.{BookFeels, BookIsUnfelt, BookIsUnfeltAt, BookIsUnfeltWhere}
pub use Rattle.dependency_book.specs.Held.{IsHeldBook, places_of}
pub use Rattle.dependency_book.specs.Inside.{state_of}
pub use Rattle.dependency_book.specs.Jobs.{IsAnyOut, IsFilled, IsFirstOut, IsNextJob, SameBook, StepExpects, answered, cancelled, given_by, is_job}
pub use Rattle.dependency_book.specs.Kept.{KeepsRows, KeepsUnfelt, arrival_after, bookmark_stays, mark_stays, text_kept}
pub use Rattle.dependency_book.specs.Needs.{CanBeReached, CanBeViewed, IsLedTo, IsNext, IsNextStep, IsNextView, IsNotAfter, ViewIsNext}
pub use Rattle.dependency_book.specs.Planned.{IsPlanned}
pub use Rattle.dependency_book.specs.Puts.{CanBePut, PutsRow, can_change, filled_by, missing}
pub use Rattle.dependency_book.specs.Ready.{AreHeldBack, IsFirst, NoneBefore, before_in, before_row, is_ready, place_ready, row_before, steppable, viewable}
pub use Rattle.dependency_book.specs.Recalled.{AreGiven, Entered, Enters, EntersOrFrees, EntersSteps, Fills, Learns, LeavesNone, LooksUp, LooksUpAll, NoneKnown, Remembers, WasGiven}
pub use Rattle.dependency_book.specs.Remade.{AreRemade, kept_of, remade_rows}
pub use Rattle.dependency_book.specs.Right.{IsGiven, IsRightBook, WasIssued}
pub use Rattle.dependency_book.specs.RowState.{any_out, either, has_number, is_empty, is_known, job_of, known, least_out, lesser, named_by, row_for, state_map}
pub use Rattle.dependency_book.specs.Rows.{ArrivalRow, IsRanked, TextRow, bookmark_rank, by_key, keys, put, state_at}
pub use Rattle.dependency_book.specs.Said.{answer_said, said, said_at, step_said, value_in, view_said}
pub use Rattle.dependency_book.specs.declared.cursor.Cursor.{Cursor}
pub use Rattle.dependency_book.specs.declared.filled.Filled.TheVariants.{NotExpected, Released}
pub use Rattle.dependency_book.specs.declared.row.Row.{Row}
pub use Rattle.dependency_book.specs.declared.row.RowState.{RowState}
pub use Rattle.dependency_book.specs.declared.row.RowState.TheVariants.{Empty, Expected, Known}
pub use Rattle.desk_events.proofs.Shared.Listed.{any_so, found_any, none_listed}
pub use Rattle.desk_events.proofs.Shared.Marks.{before_one, bookmark_is_mark, comes_le, mark_near, mark_placed}
pub use Rattle.desk_events.proofs.Shared.Needs.{need_is, need_same}
pub use Rattle.desk_events.proofs.Shared.Right.{edits_right_on, get_last, get_left, recalls_right, same_comes}
pub use Rattle.desk_events.proofs.Shared.Tests.{clash, either_way, eq_false, eq_true, false_lt, le_true, true_eq, true_le, true_lt}
pub use Rattle.desk_events.specs.Core.{Answer, Core, arrival_in, awaits, holds, nothing}
pub use Rattle.desk_events.specs.Entered.{IsEntryFrom, StepsFrom}
pub use Rattle.desk_events.specs.Entry.{steps}
pub use Rattle.desk_events.specs.Event.{CanIssue, CanRecall, Event, IsTrueAnswer, MayBeAsked, after_event, cancels, collects, edits, kept_row, recalls}
pub use Rattle.desk_events.specs.Felt.{IsFelt, UnfeltTouch, felt_from, touched_by}
pub use Rattle.desk_events.specs.Kept.{keeps_arrival, takes}
pub use Rattle.desk_events.specs.Law.{Calls, Follows, Recalled}
pub use Rattle.desk_events.specs.Marks.{ComesBefore, Precedes, bookmark_mark, forks_at, is_mark, is_start, mark_at}
pub use Rattle.desk_events.specs.Needs.{is_need, step_to}
pub use Rattle.desk_events.specs.Wanted.{bookmark_in, text_wanted, wanted}
pub use Rattle.desk_events.specs.declared.mark.Mark.{Mark}
pub use Rattle.desk_events.specs.declared.need.Need.{Need}
pub use Rattle.desk_events.specs.declared.need.Need.TheVariants.{Step, View}
pub use Rattle.document_marks.proofs.Shared.Grown.{accepted, is_within, unrefused}
pub use Rattle.document_marks.proofs.Shared.Ranks.{has_mark, rank_branches, rank_generation, rank_is, rank_test, rank_within, rank_zero}
pub use Rattle.document_marks.specs.AllMarks.{AreMarksOf, mark_rank}
pub use Rattle.ranked_rows.proofs.Shared.Places.{Stands, above_at, never_falls, rank_rises, row_there, stands}
pub use Rattle.ranked_rows.specs.Rows.{IsAt, place_in, row_at}
pub use Rattle.revision_jobs.specs.Answer.{IsRightAnswer, JobResult, result_in}
pub use Rattle.revision_jobs.specs.Entries.{IsOf, entry_of, index_of}
pub use Rattle.revision_jobs.specs.Value.{CanBeRendered, CanBeStepped, CanBeWorked, Value, pattern, start_of, text, value, world_after, world_in}
pub use Rattle.revision_jobs.specs.declared.answer.Job.{Job}
pub use Rattle.revision_jobs.specs.declared.entries.Entries.{Entries}
pub use Rattle.revision_jobs.specs.declared.entries.Place.{Place}
pub use Rattle.revision_jobs.specs.declared.entry.Entry.{Entry}
pub use Rattle.schedule.proofs.Shared.Branches.{element_at-is, parents_before}
pub use Rattle.schedule.specs.Acts.{acts_on, generations_to}
pub use Rattle.schedule.specs.Asked.{AddBookmark, Asked, MoveBookmark, RemoveBookmark, asked_of}
pub use Rattle.schedule.specs.Branches.{element_at, fork_of, reach}
pub use Rattle.schedule.specs.Change.{Changed, change, changed, made, next_bookmark, refusal, unless_refused}
pub use Rattle.schedule.specs.Ids.{IdsRise, bookmark_id, branch_id, has_id}
pub use Rattle.schedule.specs.Plan.{Plan, opening}
pub use Rattle.schedule.specs.Scratch.{after, arrival, cells_at, scratch}
pub use Rattle.schedule.specs.Sound.{IsForked, IsSound}
pub use Rattle.schedule.specs.declared.branch.Branch.{Branch}
pub use Rattle.schedule.specs.declared.document.Bookmark.{Bookmark}
pub use Rattle.std.proofs.ByRecursion.{All-get_or, All-map, All-push}
pub use Rattle.std.proofs.Common.{All, Bool, Err, IfNone, IfOk, IfSome, IsSome, IsTrue, List, MatchOption, None, Ok, Option, Result, Some, [], ap, ap₂, arith, cond, count_by, drop, false, get_or, if◌then◌else◌, inl, inr, is_some, length}
pub use Rattle.std.proofs.Common.{map, min, nat_le, nat_lt, not, refl, rules, slice_get, slice_index, subst, suc, sym, take, true, vec_capacity, vec_len, zero, ℕ, ◌&&◌, ◌*◌, ◌++◌, ◌+◌, ◌-◌, ◌<◌, ◌==◌, ◌^◌, ◌||◌, ◌↔◌, ◌∙◌, ◌∷◌, ◌≡◌, ◌≢◌}
pub use Rattle.std.proofs.Common.{◌≤◌, ◌⊎◌}
pub use Rattle.std.proofs.Math.ListN.{set}
pub use Rattle.std.proofs.Math.Path.{fun_ext}
pub use Rattle.std.proofs.lemmas.Bool.{and_from, and_parts, or_right}
pub use Rattle.std.proofs.lemmas.Bool.Decides.{nat_tests}
pub use Rattle.std.proofs.lemmas.List.{get_or_default, length-map}
pub use Rattle.std.proofs.lemmas.List.Sums.{count_by-le-length, sum_by-cons}
pub use Rattle.std.proofs.lemmas.Result.{IfOk-weaker}
pub use Rattle.std.specs.Arc.{arc_value}
pub use Rattle.std.specs.List.{AllByRecursion, list_any}
pub use Rattle.std.specs.Option.{option_map, option_map_or}
pub use Rattle.std.specs.declared.alloc.Global.{Global}
pub use Rattle.std.specs.declared.sync.Arc.{Arc}
pub use Rattle.step_facts.specs.Known.{AddsOnly, Fact}
pub use Rattle.worlds.specs.World.{World}
