-- The names that the proofs of this crate cite most, passed on from one place. It declares nothing.
pub use Rattle.basics.proofs.Shared.Lists.{all_append, all_so}
pub use Rattle.desk_events.proofs.Shared.Tests.{clash, either_way, true_eq}
pub use Rattle.desk_events.specs.Marks.{acting_marks, bookmark_mark, branch_marks, forks_at, is_mark, is_same, is_start, mark_at, stands_at}
pub use Rattle.desk_events.specs.declared.mark.Mark.{Mark}
pub use Rattle.document_marks.specs.AllMarks.{AreMarksOf, but_start, mark_rank}
pub use Rattle.document_marks.specs.MostMarks.{asks_to_repeat, marks_at_most, marks_at_most_after, most_repeats}
pub use Rattle.schedule.proofs.Shared.Ids.{each_filter, each_map, length-filter_le}
pub use Rattle.schedule.specs.Acts.{acts_on, generations_to, marks_to, repeats}
pub use Rattle.schedule.specs.Asked.{AddBookmark, AddBranch, Asked, Change, Insert, MoveBookmark, RemoveBookmark, RemoveBranch, RemoveIntervention, ReplaceRule, ReplaceStart, SetCells, asked_of}
pub use Rattle.schedule.specs.Branches.{reach}
pub use Rattle.schedule.specs.Ids.{IdsRise, changed_at, intervention_id, without}
pub use Rattle.schedule.specs.Plan.{Plan}
pub use Rattle.schedule.specs.Repeats.{marks_within, repeat_marks}
pub use Rattle.schedule.specs.Sound.{IsSound}
pub use Rattle.schedule.specs.declared.document.Intervention.{Intervention}
pub use Rattle.std.proofs.Common.{Bool, Less, List, None, Ok, Option, Some, [], ap, ap₂, arith, false, flat_map, get_or, length, map, nat_le, not, refl, rules, subst, sym, take, true, vec_capacity, vec_len, ℕ, ◌&&◌, ◌*◌, ◌++◌, ◌+◌, ◌<◌}
pub use Rattle.std.proofs.Common.{◌==◌, ◌^◌, ◌||◌, ◌∙◌, ◌∷◌, ◌≡◌, ◌≤◌}
pub use Rattle.std.proofs.lemmas.Bool.{not-true, or_parts}
pub use Rattle.std.proofs.lemmas.Bool.Decides.{nat_tests}
pub use Rattle.std.proofs.lemmas.Fn.{always_returns_same, dedup_same, filter_same}
pub use Rattle.std.proofs.lemmas.List.{append-nil, flat_map_more, length-append, length-map, take_more}
pub use Rattle.std.proofs.lemmas.List.Elements.{All-replicate, All-weaker, filter_passes, recursion_from_All}
pub use Rattle.std.proofs.lemmas.List.Folds.{length-flat_map-take, list_any-append, list_any_at}
pub use Rattle.std.proofs.lemmas.List.Sums.{sum_by-cons}
pub use Rattle.std.specs.List.{All, AllByRecursion, dedup, dedup_from, list_any}
pub use Rattle.std.specs.List.Sorted.{IsPermutation, IsSortedByKey}
