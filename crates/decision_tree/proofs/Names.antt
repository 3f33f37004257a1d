-- The names that the proofs of this crate cite most, passed on from one place. It declares nothing.
pub use Rattle.basics.specs.Results.{◌>>=◌}
pub use Rattle.decision_tree.specs.EntryForms.{states_at}
pub use Rattle.decision_tree.specs.Kept.{AreKept, IsKeptTree, IsTreeHead, Stores, nodes_in, nodes_of, saturated, tree_of_kept}
pub use Rattle.decision_tree.specs.Laws.{DescriptorsInAnyOrder, NumbersDoNotMatter, WrittenIsItsFile, WrittenMeansTheSame, is_descriptor}
pub use Rattle.decision_tree.specs.Tree.{Entries, Tree, follow, inputs_of, is_quiescent, is_sound, leads, next, node_at, places_of, root_of}
pub use Rattle.decision_tree.specs.TreeLaws.{leads-on, leads-width}
pub use Rattle.decision_tree.specs.TreeLines.{Described, Node, depth_of_root, describe, descriptor_named, descriptor_of, do_entries_fit, head_from, head_of, if_quiescent, is_next, last_number, most_nodes, neighbors_in, node_count_in}
pub use Rattle.decision_tree.specs.TreeLines.{node_from, node_of, nodes_from, numbers_in, once, tree_from, tree_of, undescribed, with_line, words}
pub use Rattle.decision_tree.specs.WrittenTree.{AreNodesOf, EachIsNext, neighbors_text, node_line, written_lines, written_section}
pub use Rattle.decision_tree.specs.declared.descriptors.Descriptor.{Descriptor}
pub use Rattle.decision_tree.specs.declared.descriptors.TreeHead.{TreeHead}
pub use Rattle.decision_tree.specs.declared.tree.Neighbors.{Neighbors}
pub use Rattle.decision_tree.specs.declared.tree.Neighbors.TheVariants.{Eight, Four}
pub use Rattle.rule_file.proofs.Shared.Readings.{GivesToo, WantsNone, handed_on, map-some, ok_or-too, same_value, some-ok, then-ok, then_too, unless-too}
pub use Rattle.rule_file.proofs.Shared.WrittenFiles.{IsPlain, IsPlainLine, IsSolid, digit-plain, digit-solid, file-written, is_solid, solid-line, solid-tested, within-read}
pub use Rattle.rule_file.specs.RuleFile.{NumberedLine, Section, numbered_from, opens_section}
pub use Rattle.rule_file.specs.States.{least_states, most_states, states_in}
pub use Rattle.rule_file.specs.declared.fault.RuleFault.{RuleFault}
pub use Rattle.rule_file.specs.declared.fault.RuleFault.TheVariants.{BadTree, NotQuiescent}
pub use Rattle.std.proofs.Common.{All, Bool, Bor, EachIndex, Err, List, None, Ok, Option, Result, Some, [], ap, append-nil, append_assoc, arith, below_more, codes, cond, decimal, drop, false, filter, get_or, inl, inr, is_some, length}
pub use Rattle.std.proofs.Common.{length-append, map, nat_lt, option_and_then, refl, rules, slice_index, slice_index_or, subst, suc, sym, take, tests, true, zero, ℕ, ◌&&◌, ◌*◌, ◌++◌, ◌+◌, ◌-◌, ◌/◌, ◌<◌, ◌==◌, ◌∙◌, ◌∷◌, ◌≡◌, ◌≢◌, ◌≤◌}
pub use Rattle.std.proofs.lemmas.Bool.{and_from, and_parts, cases_eq, cases_lt}
pub use Rattle.std.proofs.lemmas.Bool.Decides.{nat_tests}
pub use Rattle.std.proofs.lemmas.Grind.{common_steps}
pub use Rattle.std.proofs.lemmas.List.{drop-append-le, drop_more, get_or-map, get_or_append_left, get_or_default, get_or_push, length-map, map-append, nil_from_length, take-append-drop, take-append-le, take_all}
pub use Rattle.std.specs.List.{AllByRecursion, concat, list_all, slice_get}
pub use Rattle.std.specs.Option.{ok_or, option_copied, option_map, option_map_or}
pub use Rattle.text_lines.proofs.Shared.ByteRanges.{IsDigit, differs, digit-visible, visible-solid, visible-tested}
pub use Rattle.text_lines.proofs.Shared.Decimals.{IsWide, decimal-bytes, number_of-decimal}
pub use Rattle.text_lines.proofs.Shared.NumberLines.{IsNumberLine, Parts, numbers-bytes, numbers-line, numbers-start, words-numbers}
pub use Rattle.text_lines.specs.Blanks.{is_blank}
pub use Rattle.text_lines.specs.Numbers.{is_word, numbers_line}
pub use Rattle.worlds.specs.Step.{nine_zeros}
