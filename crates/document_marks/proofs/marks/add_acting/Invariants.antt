use Rattle.document_marks.proofs.Names.{length, map, mark_at, vec_capacity, vec_len, ◌++◌, ◌+◌, ◌≡◌}
use Rattle.document_marks.proofs.marks.add_acting.Given as goal

abbrev pub invariant-loop-generation : goal.invariant-loop-generation
invariant-loop-generation l = record {
  items : l.marks.items ≡ l.fn.marks.items ++ map (mark_at l.intervention.branch) l.yielded;
  len : vec_len l.marks ≡ vec_len l.fn.marks + length l.yielded;
  capacity : vec_capacity l.marks ≡ vec_capacity l.fn.marks;
}
