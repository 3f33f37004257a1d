-- The names that the proofs of this crate cite most, passed on from one place. It declares nothing.
pub use Rattle.basics.proofs.Shared.Lists.{all_append, all_so}
pub use Rattle.replay_laws.specs.Law.{DocumentsAreMadeAnew, EditsMakeDocuments, IsMade, Lead, RowsAreMadeAnew, bare, last_id, remade}
pub use Rattle.replay_laws.specs.Replay.{add_all, add_bookmark, add_branch, add_intervention, bookmark_edits, branch_edits, edits_for, ids_between, intervention_edits, row_edits, skip_bookmark, skip_branch, skip_intervention}
pub use Rattle.rule_tree.specs.Rule.{states_of, states_of-still, still}
pub use Rattle.schedule.proofs.Each.{all_pass}
pub use Rattle.schedule.proofs.Shared.Branches.{fork_of-zero}
pub use Rattle.schedule.specs.Asked.{AddBookmark, AddBranch, Asked, Change, Insert, MoveBookmark, RemoveBookmark, RemoveBranch, RemoveIntervention, ReplaceRule, ReplaceStart}
pub use Rattle.schedule.specs.Branches.{element_at, fork_of, has_branch, has_children, reach}
pub use Rattle.schedule.specs.Change.{acting, acts_too_far, changed, changed_bookmarks, is_bad_repeat, is_in_use, is_named, lies_below, lies_near, marking, may_be_named, next_bookmark, next_branch, next_intervention, refusal, stay_in_range}
pub use Rattle.schedule.specs.Change.{with_branch, with_changed_intervention, with_intervention}
pub use Rattle.schedule.specs.Ids.{IdsRise, bookmark_id, branch_id, changed_at, has_id, intervention_id, without}
pub use Rattle.schedule.specs.Plan.{Plan, opening}
pub use Rattle.schedule.specs.Repeats.{repeat_marks}
pub use Rattle.schedule.specs.Sound.{IsAllowed, IsForked, IsPlaced, IsSound}
pub use Rattle.schedule.specs.declared.acts.Acts.{Acts}
pub use Rattle.schedule.specs.declared.branch.Branch.{Branch}
pub use Rattle.schedule.specs.declared.document.Bookmark.{Bookmark}
pub use Rattle.schedule.specs.declared.document.Intervention.{Intervention}
pub use Rattle.std.proofs.Common.{Bool, List, None, [], ap, ap₂, arith, false, flat_map, if◌then◌else◌, length, length-append, map, nat_lt, neg_ℤ, not, pos, refl, subst, suc, sym, true, zero, ℕ, ℤ, ◌&&◌, ◌*◌, ◌++◌, ◌+ℤ◌, ◌+◌, ◌-ℤ◌, ◌-◌}
pub use Rattle.std.proofs.Common.{◌<ℤ◌, ◌<◌, ◌==◌, ◌^◌, ◌∙◌, ◌∷◌, ◌≡◌, ◌≤ℤ◌, ◌≤◌}
pub use Rattle.std.proofs.lemmas.Bool.Decides.{nat_tests}
pub use Rattle.std.proofs.lemmas.List.{append-nil, append_assoc, length-map}
pub use Rattle.std.specs.List.{AllByRecursion, list_all, list_any, range_with_len, sum_by}
pub use Rattle.worlds.specs.World.{Place, World, blank, cell, entries-blank}
pub use Rattle.worlds.specs.declared.cell.CellSet.{CellSet}
