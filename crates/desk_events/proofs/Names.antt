-- The names that the proofs of this crate cite most, passed on from one place. It declares nothing.
pub use Rattle.bookmarks.specs.Text.{text_of}
pub use Rattle.bookmarks.specs.Value.{Value, pattern, text}
pub use Rattle.desk_events.specs.Configuration.{AnswersAfter, Configuration, HappenAll, Happening, Happens, HappensToDesk, IsReached, IsWithout, desk, echoes, finishes, loses_answer, opened_among, queued_after}
pub use Rattle.desk_events.specs.Core.{Answer, Core, Row, arrival_in, awaits, holds, nothing, opened, opened_row, shown, shown_for, world_in}
pub use Rattle.desk_events.specs.Entry.{AreSameSteps, Entry, Stepping, Viewing, start_of, steps, value, views, world_after, world_seen}
pub use Rattle.desk_events.specs.Event.{CanEdit, CanHappen, CanIssue, CanRecall, Event, IsTrueAnswer, MayBeAsked, after_edit, after_event, answered, cancelled, cancels, collects, edits, given_by, issues, kept_row, recalls}
pub use Rattle.desk_events.specs.Felt.{IsFelt, IsUnfelt, IsUnfeltAt, IsUnfeltWhere, LayAlikeOn, UnfeltTouch, added, cells_acting_at, felt_from, first_touched, from_touched, moved, removed, touched_by}
pub use Rattle.desk_events.specs.Kept.{keeps, keeps_arrival, keeps_bookmark, keeps_text, leaves_after, stays_mark, takes}
pub use Rattle.desk_events.specs.Law.{AreCalls, CallsAreEvents, IsCall, IsTrue, Recalled, Recalls, ShowsOnlyScratch, StaysRight, recall}
pub use Rattle.desk_events.specs.Marks.{BeginsFrom, ComesBefore, Precedes, acts_within, bookmark_mark, forks_at, is_mark, is_same, is_start, mark_at, stands_at}
pub use Rattle.desk_events.specs.Needs.{is_need, step_to}
pub use Rattle.desk_events.specs.Right.{GivesWanted, IsRight, IsShown, Stands}
pub use Rattle.desk_events.specs.Wanted.{bookmark_in, text_wanted, wanted}
pub use Rattle.desk_events.specs.declared.mark.Mark.{Mark}
pub use Rattle.desk_events.specs.declared.need.Need.{Need}
pub use Rattle.desk_events.specs.declared.need.Need.TheVariants.{Step, View}
pub use Rattle.desk_events.specs.declared.touched.Touched.{Touched}
pub use Rattle.rule_tree.specs.Rule.{name_of, next_of, states_of, states_of-still, still}
pub use Rattle.schedule.proofs.Shared.Acts.{acts-from}
pub use Rattle.schedule.proofs.Shared.Branches.{fork_of-zero, forks_rise, parents_before, unused}
pub use Rattle.schedule.proofs.Shared.Lines.{after-unfelt, arrival-added, arrival-fork, arrival-removed, arrival-start, arrival-undisturbed, arrival-unfelt}
pub use Rattle.schedule.proofs.Sounds.{IsSound-opening, IsSound-removed_branch}
pub use Rattle.schedule.specs.Acts.{IsTimely, acts_on, first_of}
pub use Rattle.schedule.specs.Alike.{LayAlikeWithin}
pub use Rattle.schedule.specs.Asked.{AddBookmark, AddBranch, Asked, Change, Insert, MoveBookmark, RemoveBookmark, RemoveBranch, RemoveIntervention, ReplaceRule, ReplaceStart, SetCells}
pub use Rattle.schedule.specs.Branches.{element_at, fork_of, has_bookmarks, has_branch, parent_of, reach}
pub use Rattle.schedule.specs.Change.{acting, all_set_below, changed, first_refusal, is_in_use, marking, next_bookmark, next_intervention, refusal, spent, unless_refused}
pub use Rattle.schedule.specs.Ids.{IdsRise, bookmark_id, branch_id, changed_at, has_id, intervention_id, without}
pub use Rattle.schedule.specs.Plan.{Plan, opening}
pub use Rattle.schedule.specs.Scratch.{acts_at, after, arrival, cells_at, own_cells, scratch}
pub use Rattle.schedule.specs.Sound.{AreMarked, IsAllowed, IsForked, IsPlaced, IsSound}
pub use Rattle.schedule.specs.declared.acts.Acts.{Acts}
pub use Rattle.schedule.specs.declared.branch.Branch.{Branch}
pub use Rattle.schedule.specs.declared.document.Bookmark.{Bookmark}
pub use Rattle.schedule.specs.declared.document.Intervention.{Intervention}
pub use Rattle.schedule.specs.declared.fault.EditFault.{EditFault}
pub use Rattle.schedule.specs.declared.fault.EditFault.TheVariants.{BranchInUse, CellStateTooHigh, NoSuchBranch}
pub use Rattle.std.proofs.Common.{Bool, List, None, Option, Some, [], ap, append-nil, ap₂, arith, false, if◌then◌else◌, inl, inr, length, length-append, map, min, nat_le, nat_lt, not, refl, slice_get, subst, suc, sym, true, zero, ℕ, ◌&&◌}
pub use Rattle.std.proofs.Common.{◌++◌, ◌+◌, ◌-◌, ◌<◌, ◌==◌, ◌^◌, ◌||◌, ◌∙◌, ◌∷◌, ◌≡◌, ◌≢◌, ◌≤◌, ◌⊎◌}
pub use Rattle.std.proofs.lemmas.Bool.{and_parts, and_right, cond-false, or_cases, or_from, or_parts}
pub use Rattle.std.proofs.lemmas.Bool.Decides.{nat_tests}
pub use Rattle.std.specs.List.{AllByRecursion, list_all, list_any}
pub use Rattle.std.specs.Option.{option_map, option_map_or}
pub use Rattle.worlds.specs.Iterate.{iterate, iterate-zero}
pub use Rattle.worlds.specs.Lay.{lay}
pub use Rattle.worlds.specs.Step.{step}
pub use Rattle.worlds.specs.World.{Place, World, blank, entries-blank}
pub use Rattle.worlds.specs.declared.cell.CellSet.{CellSet}
