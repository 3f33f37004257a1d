use Rattle.table_lines.proofs.Names.{VariablesBelow, behind, drop, no_variables, transitions_of, variables_of, ◌≡◌, ◌≤◌}
use Rattle.table_lines.proofs.transitions.read_transitions.Given as goal

abbrev pub invariant-loop-line : goal.invariant-loop-line
invariant-loop-line l = record {
  read : behind l.transitions.items (transitions_of l.head (variables_of l.variables) (drop l.line-index l.lines)) ≡ transitions_of l.head no_variables l.lines;
  below : VariablesBelow l.head.states (variables_of l.variables);
  count : l.variables.defined ≤ l.line-index;
}
