-- The names that the proofs of this crate cite most, passed on from one place. It declares nothing.
pub use Rattle.dependency_book.proofs.Shared.Recalling.{Stays, recalls_book, recalls_row}
pub use Rattle.dependency_book.proofs.Shared.Settled.{few_rows, none_pending}
pub use Rattle.dependency_book.specs.BookState.{BookState, NothingOut, empty_rows_of, expected, given_of, opened, pending_of, row_of}
pub use Rattle.dependency_book.specs.Jobs.{IsAnyOut, IsNextJob, SameBook, SameDocument, answered, cancelled, given_by, is_job, issued}
pub use Rattle.dependency_book.specs.Recalled.{EntersSteps, Fills, Revises}
pub use Rattle.dependency_book.specs.Right.{IsRightBook}
pub use Rattle.dependency_book.specs.RowState.{has_number, is_empty, job_of}
pub use Rattle.dependency_book.specs.Rows.{ArrivalRow, TextRow, keys}
pub use Rattle.dependency_book.specs.declared.row.RowState.{RowState}
pub use Rattle.dependency_book.specs.declared.row.RowState.TheVariants.{Empty, Expected, Known}
pub use Rattle.desk_core.specs.Calls.{Call, Cancels, CollectsAs, ComesBy, ComesByAll, GoesByCalls, IssuesNone, StopsAtCause, answer_in, answers_in, first_cause, is_issue, met_by}
pub use Rattle.desk_core.specs.Cause.{cause_of_answer, cause_of_issue}
pub use Rattle.desk_core.specs.Issued.{IssuesFor, RefusesIssue}
pub use Rattle.desk_core.specs.Looks.{AreOfPlan, LooksAt, LooksAtEach, LooksIfAnswered, LooksOn}
pub use Rattle.desk_core.specs.Progress.{Advances, Asks, CanSendNext, CancelsAny, CollectsOn, Comes, FeedsOn, Frees, GoesOn, HasCome, IsAtHand, IsDone, IsDoneBy, KeepsJobs, Nears, RunsOut, Stage, at_rest, job_in, ready, stage, turns_at}
pub use Rattle.desk_core.specs.Progress.{turns_for, turns_from}
pub use Rattle.desk_core.specs.Settling.{Ends, Explains, GivesAtMost, HasCause, HoldsAllOut, IsEnding, IsWhy, KeepsKnown, KeepsWhatIsKnown, RanOut, SawStop, Serves, ServesOn, Settles, TellsCause, rows_of}
pub use Rattle.desk_core.specs.declared.cause.Cause.{Cause}
pub use Rattle.desk_core.specs.declared.issue.IssueFault.{IssueFault}
pub use Rattle.desk_core.specs.declared.progress.Progress.{Progress}
pub use Rattle.desk_core.specs.declared.unsent.Unsent.{Unsent}
pub use Rattle.desk_core.specs.declared.unsent.Unsent.TheVariants.{Nothing, Ready, Waiting}
pub use Rattle.desk_events.proofs.Shared.Needs.{need_is, need_same}
pub use Rattle.desk_events.specs.Needs.{is_need}
pub use Rattle.desk_events.specs.declared.need.Need.{Need}
pub use Rattle.revision_jobs.specs.Answer.{JobResult}
pub use Rattle.revision_jobs.specs.Entries.{IsOf, entry_of}
pub use Rattle.revision_jobs.specs.Posted.{IsOwnAnswer, PostView, Receives, Sends}
pub use Rattle.revision_jobs.specs.Value.{Value}
pub use Rattle.revision_jobs.specs.declared.answer.Job.{Job}
pub use Rattle.revision_jobs.specs.declared.post.Sent.{Sent}
pub use Rattle.revision_jobs.specs.declared.post.Sent.TheVariants.{Closed, Full, Taken}
pub use Rattle.std.proofs.Common.{Bool, Break, Continue, ControlFlow, Err, IfOk, IfSome, IsSome, List, None, Ok, OnErr, OnOk, Option, Result, Some, [], ap, append-nil, append_assoc, arith, false, if◌then◌else◌, inl, inr, is_some, length}
pub use Rattle.std.proofs.Common.{refl, rules, subst, sym, true, unwrap_or, ℕ, ◌*◌, ◌++◌, ◌+◌, ◌<◌, ◌∙◌, ◌∷◌, ◌≡◌, ◌≤◌, ◌⊎◌}
pub use Rattle.std.proofs.lemmas.Bool.Decides.{nat_tests}
pub use Rattle.std.proofs.lemmas.Grind.{common_steps}
pub use Rattle.std.proofs.lemmas.List.{get_or-append-add, length-append, length-map}
pub use Rattle.step_engine.specs.declared.evolved.EvolveFault.{EvolveFault}
