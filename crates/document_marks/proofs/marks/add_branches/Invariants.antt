use Rattle.document_marks.proofs.Names.{branch_marks, flat_map, take, vec_capacity, vec_len, ◌*◌, ◌++◌, ◌+◌, ◌≡◌}
use Rattle.document_marks.proofs.marks.add_branches.Given as goal

abbrev pub invariant-loop-branch : goal.invariant-loop-branch
invariant-loop-branch l = record {
  items : l.marks.items ≡ l.fn.marks.items ++ flat_map branch_marks (take l.branch-index l.branches);
  len : vec_len l.marks ≡ vec_len l.fn.marks + 2 * l.branch-index;
  capacity : vec_capacity l.marks ≡ vec_capacity l.fn.marks;
}
