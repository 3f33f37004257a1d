use Rattle.table_lines.proofs.Names.{behind, each, entry_of, length, places_of, variables_of, ◌+◌, ◌≡◌}
use Rattle.table_lines.proofs.transitions.take_inputs.Given as goal

abbrev pub invariant-loop : goal.invariant-loop
invariant-loop l = record {
  read : each (entry_of l.head.states (variables_of l.variables) l.line) l.fn.fields ≡ behind l.entries.items (each (entry_of l.head.states (variables_of l.variables) l.line) l.fields);
  left : length l.fields + l.counter ≡ length (places_of l.head.neighborhood) + 2;
}
