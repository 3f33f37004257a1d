use Rattle.std.proofs.Common.{◌≡◌}
use Rattle.board_example.proofs.editing.edit_all.Given as goal

abbrev pub invariant-loop-edit : goal.invariant-loop-edit
invariant-loop-edit g l =
    (goal.iterator-loop-edit g).can_next l.edit-iterator ×
    (goal.iterator-loop-edit g).is_finite l.edit-iterator ×
    (l.desk.table ≡ l.fn.entries)
