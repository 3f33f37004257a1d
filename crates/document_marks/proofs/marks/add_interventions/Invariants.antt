use Rattle.document_marks.proofs.Names.{All, acting_marks, flat_map, reach, take, vec_capacity, ◌++◌, ◌≡◌}
use Rattle.document_marks.proofs.marks.add_interventions.Given as goal

abbrev pub invariant-loop-intervention : goal.invariant-loop-intervention
invariant-loop-intervention l = record {
  items : l.marks.items ≡ l.fn.marks.items
      ++ flat_map (acting_marks (reach l.document)) (take l.intervention-index l.document.interventions);
  capacity : vec_capacity l.marks ≡ vec_capacity l.fn.marks;
  known : All (λ r. r.far ≡ reach l.document r.branch) l.known;
}
