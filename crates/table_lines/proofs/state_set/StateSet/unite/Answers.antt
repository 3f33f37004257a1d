use Rattle.table_lines.proofs.Sets.{AreWords-united, united}
use Rattle.table_lines.proofs.state_set.StateSet.unite.Goals as goal

pub invariant_of-self : goal.invariant_of-self
invariant_of-self c = AreWords-united c.self.inside.words c.other.inside.words c.self.invariant c.other.invariant

pub returns : goal.returns
returns c = rw (← c.self.view_is, ← c.other.view_is) (united c.self.inside.words c.other.inside.words)
