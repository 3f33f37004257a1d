-- The names that the proofs of this crate cite most, passed on from one place. It declares nothing.
pub use Rattle.basics.proofs.Shared.Lists.{all_append, all_so}
pub use Rattle.bookmarks.specs.Within.{KeepsViewLimits}
pub use Rattle.bookmarks.specs.declared.view.View.{View}
pub use Rattle.rule_tree.specs.Rule.{name_of, next_of, states_of, states_of-still, still}
pub use Rattle.rule_tree.specs.declared.rule.Rule.{Rule}
pub use Rattle.schedule.specs.Acts.{IsTimely, acts_on, count_between, first_of, generations_of, generations_to, marks_to, repeats}
pub use Rattle.schedule.specs.Asked.{AddBookmark, AddBranch, Asked, Change, Insert, MoveBookmark, RemoveBookmark, RemoveBranch, RemoveIntervention, ReplaceRule, ReplaceStart, SetCells}
pub use Rattle.schedule.specs.Branches.{bookmark_branch, element_at, farthest_bookmark, farthest_fork, fork_of, has_bookmarks, has_branch, has_children, has_interventions, intervention_branch, parent_of, reach}
pub use Rattle.schedule.specs.Change.{acting, acts_too_far, all_set_below, changed, changed_bookmarks, changed_cells, first_refusal, for_bookmark, for_branch, for_cells, for_cells_before, for_changed, for_changed_intervention, for_inserted}
pub use Rattle.schedule.specs.Change.{for_intervention, for_marks, for_moved_bookmark, for_removed_branch, for_rule, for_start, for_view, is_bad_repeat, is_before_fork, is_in_use, is_named, is_too_far, lies_below, lies_near, marking}
pub use Rattle.schedule.specs.Change.{may_be_named, next_bookmark, next_branch, next_intervention, refusal, refusals, revised, set_below, spent, stay_in_range, with_branch, with_changed_intervention, with_intervention, with_moved_bookmark}
pub use Rattle.schedule.specs.Change.{without_bookmark, without_branch, without_intervention}
pub use Rattle.schedule.specs.Evolution.{Evolution, arrive, is_felt}
pub use Rattle.schedule.specs.Ids.{IdsRise, bookmark_id, branch_id, changed_at, has_id, intervention_id, without}
pub use Rattle.schedule.specs.Kept.{plan_of}
pub use Rattle.schedule.specs.Laws.{AreSinglesOf, IsMark, IsOneLine, IsProgression, IsReach, SameElsewhere, after_alone, arrival_alone, setting, told}
pub use Rattle.schedule.specs.Plan.{Plan, opening}
pub use Rattle.schedule.specs.Repeats.{capped_changed, capped_marks, capped_sum, has_too_many_marks, marks_within, reach_with, repeat_marks}
pub use Rattle.schedule.specs.Scratch.{acts_at, after, arrival, cells_at, history_of, own_cells}
pub use Rattle.schedule.specs.Sound.{AreMarked, AreNamed, ArePlaced, AreSound, IsAllowed, IsForked, IsPlaced, IsSound, SetBelow}
pub use Rattle.schedule.specs.declared.acts.Acts.{Acts}
pub use Rattle.schedule.specs.declared.acts.Acts.TheVariants.{Every, Once}
pub use Rattle.schedule.specs.declared.branch.Branch.{Branch}
pub use Rattle.schedule.specs.declared.document.Bookmark.{Bookmark}
pub use Rattle.schedule.specs.declared.document.Intervention.{Intervention}
pub use Rattle.std.proofs.Common.{All, Bool, IfSome, List, None, Option, Some, [], ap, ap₂, arith, cond, false, filter, find, flat_map, fold, get_or, if◌then◌else◌, inl, inr, int_le, int_lt, length, length-append, map, max, min, nat_le}
pub use Rattle.std.proofs.Common.{nat_lt, neg_ℤ, not, pos, position, refl, rules, subst, suc, sym, true, zero, ℕ, ℤ, ◌%◌, ◌&&◌, ◌*◌, ◌++◌, ◌+ℤ◌, ◌+◌, ◌-ℤ◌, ◌-◌, ◌/◌, ◌<ℤ◌, ◌<◌, ◌==◌, ◌^◌, ◌∙◌, ◌∷◌, ◌≡◌, ◌≤ℤ◌, ◌≤◌, ◌⊎◌}
pub use Rattle.std.proofs.Math.Nat.{add-div_right, add-mod_right, div-eq_of_lt, div-mul-le_self, div-zero, mod-add-div', mod-eq_of_lt, mod-zero, mul-mod_left, zero-mod}
pub use Rattle.std.proofs.lemmas.Bool.{and_parts, cond-false, le-ltb, leb-false, lt-ltb, ltb-false, not-false, or_parts, or_right}
pub use Rattle.std.proofs.lemmas.Bool.Decides.{nat_tests}
pub use Rattle.std.proofs.lemmas.Fn.{filter_same}
pub use Rattle.std.proofs.lemmas.List.{append-nil, append_assoc, length-map, with_items_is}
pub use Rattle.std.proofs.lemmas.List.Elements.{All-from_recursion, All-get_or}
pub use Rattle.std.proofs.lemmas.List.Folds.{fold-map}
pub use Rattle.std.proofs.lemmas.List.Sums.{count_by-le-length, fold-append, length-filter, sum_by-cons, sum_by_push}
pub use Rattle.std.specs.Arc.{arc_value}
pub use Rattle.std.specs.List.{AllByRecursion, list_all, list_any, sum_by}
pub use Rattle.std.specs.Option.{option_map, option_map_or, unwrap_or}
pub use Rattle.std.specs.Prelude.{⊤}
pub use Rattle.worlds.proofs.Shared.Keeps.{AllBelow-arrive, AllBelow-lay, AreInside-less, HasMargin-arrive, HasMargin-lay, IsInside-less}
pub use Rattle.worlds.specs.Arrival.{arrive-gap, arrive-past, arrive-zero}
pub use Rattle.worlds.specs.Lay.{lay}
pub use Rattle.worlds.specs.Range.{AllBelow, CanBeLaid, HasMargin, IsBoundingBox, IsGreatest, IsInBox, IsInside}
pub use Rattle.worlds.specs.Step.{step}
pub use Rattle.worlds.specs.World.{Place, World, blank, cell, cell-blank, entries-blank}
pub use Rattle.worlds.specs.declared.cell.CellSet.{CellSet}
