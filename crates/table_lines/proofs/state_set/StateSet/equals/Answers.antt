use Rattle.std.proofs.Common.{◌∙◌}
use Rattle.table_lines.proofs.Sets.{same_set-words}
use Rattle.table_lines.proofs.state_set.StateSet.equals.Goals as goal

pub returns : goal.returns
returns c = rw (← c.self.view_is, ← c.other.view_is) (c.eq.ensures ∙ same_set-words _ _ c.self.invariant c.other.invariant)
