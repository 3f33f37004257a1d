-- The names that the proofs of this crate cite most, passed on from one place. It declares nothing.
pub use Rattle.decision_tree.proofs.Shared.KeptNodes.{length-nodes_in, nodes_in-push, none-past}
pub use Rattle.decision_tree.specs.Kept.{IsKeptTree, nodes_in, tree_of_kept}
pub use Rattle.decision_tree.specs.Tree.{Entries, Tree, follow, inputs_of, is_sound, leads, node_at, places_of, root_of}
pub use Rattle.decision_tree.specs.TreeLaws.{inputs-below, leads-on, leads-width, state-below}
pub use Rattle.decision_tree.specs.declared.tree.Neighbors.{Neighbors}
pub use Rattle.std.proofs.Common.{All, Bool, Err, Global, IfErr, IfSome, IsErrAnd, List, None, Ok, Option, Result, Some, Vec, [], add-one, add-zero, ap, append-nil, append_assoc, arith, below_more, bit_and, cond, drop, false, get_or}
pub use Rattle.std.proofs.Common.{if◌then◌else◌, inl, inr, length, map, nat_lt, refl, replicate, rules, set, slice_get, slice_index, slice_index_or, subst, suc, sym, take, true, unwrap_or, zero, ℕ, ◌%◌, ◌&&◌, ◌*◌, ◌++◌, ◌+◌, ◌-◌, ◌/◌, ◌<◌}
pub use Rattle.std.proofs.Common.{◌==◌, ◌^◌, ◌∙◌, ◌∷◌, ◌≡◌, ◌≢◌, ◌≤◌}
pub use Rattle.std.proofs.lemmas.Bool.{and_from, and_parts, cases_eq, cases_lt, cases_order, eq-eqb, eqb-true}
pub use Rattle.std.proofs.lemmas.Bool.Decides.{Decides-and, Decides-eqb, Decides-like, nat_tests, same_from_decides}
pub use Rattle.std.proofs.lemmas.Grind.{common_steps, elements}
pub use Rattle.std.proofs.lemmas.List.{drop_more, get_or-append_right, get_or-map, get_or-replicate, get_or_append_left, get_or_default, get_or_push, get_or_read, length-append, length-drop, length-map, length_push, map-append, map_more}
pub use Rattle.std.proofs.lemmas.List.{nil_from_length, replicate_more, take_all, take_more}
pub use Rattle.std.proofs.lemmas.List.Elements.{All-append, All-cons, All-from_recursion, All-more, All-nil, All-push, All-replicate, All-tail}
pub use Rattle.std.proofs.lemmas.List.Sums.{AllPass-from_list_all, list_all-from_AllPass}
pub use Rattle.std.proofs.lemmas.Nat.Bits.{bit_at-lt, bit_at-trailing_ones, bit_at-trailing_zeros, bit_at-zero, bit_at_ones, shr_and_one}
pub use Rattle.std.proofs.lemmas.Option.{get_or_from_slice_get, slice_get_within}
pub use Rattle.std.proofs.lemmas.Slice.Eq.{bytes_eq-Decides, slice_eq-Decides}
pub use Rattle.std.specs.Int.{bit_at}
pub use Rattle.std.specs.List.{IsDistinct, list_all, list_any, position_or_len}
pub use Rattle.std.specs.Option.{option_or}
pub use Rattle.table_symmetry.specs.Rows.{AreExpanded}
pub use Rattle.table_symmetry.specs.Table.{Table}
pub use Rattle.table_symmetry.specs.declared.expansion.Expanded.{Expanded}
pub use Rattle.tree_translation.specs.Layers.{AreLayersOf, Fit, IsGrownBy, IsLayer, IsLayerOf, StandsFor, all_allow, allows, asked, asked_at, count_of, lets, rest_at, result_of, same_asked, tail_at}
pub use Rattle.tree_translation.specs.Near.{AreNear, TreatsAlike}
pub use Rattle.tree_translation.specs.NodesNeeded.{NeedTwoNodes, NeedsNodes}
pub use Rattle.tree_translation.specs.Numbering.{AreBegun, AreEntries, AreFit, AreNodes, AreTailsAt, GrowsNodes, IsBegun, IsEntry, IsFull, IsLeft, IsNode, IsNumberOf, IsStored, NeedsTooMany, entries_in, input_at, same_listed, same_node}
pub use Rattle.tree_translation.specs.Packed.{keeps_runs, runs_from, spread_from}
pub use Rattle.tree_translation.specs.Starts.{NeedStarts, Start, StartsApart, start_at}
pub use Rattle.tree_translation.specs.TailsFound.{AreMarked, AreTailsFound, is_in}
pub use Rattle.tree_translation.specs.Translation.{AreLeaves, DoTable, Does, DoesRows, LeftOf, Translates, asked_behind, first_some, last_of, neighbors_of, node_limit, order_of, outcome, rows_give}
pub use Rattle.tree_translation.specs.declared.layers.Layer.{Layer}
pub use Rattle.tree_translation.specs.declared.layers.Tail.{Tail}
pub use Rattle.tree_translation.specs.declared.listed.Listed.{Listed}
pub use Rattle.tree_translation.specs.declared.listed.Node.{Node}
pub use Rattle.tree_translation.specs.declared.numbering.NodeTable.{NodeTable}
pub use Rattle.worlds.specs.Step.{AreNineBelow, nine_zeros}
