use Rattle.table_lines.proofs.Names.{length, variables_of}
use Rattle.table_lines.proofs.Unions.{SoFar}
use Rattle.table_lines.proofs.variables.Variables.set_of.Given as goal

abbrev pub invariant-loop-member : goal.invariant-loop-member
invariant-loop-member l = SoFar l.states (variables_of l.self) l.line l.fn.members l.members l.set l.are_below

abbrev pub decreases-loop-member : goal.decreases-loop-member
decreases-loop-member l = length l.members
