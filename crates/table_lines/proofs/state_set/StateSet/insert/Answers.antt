use Rattle.table_lines.proofs.Names.{arith, or_lt, refl}
use Rattle.table_lines.proofs.Sets.{AreWords-set, inserted}
use Rattle.table_lines.proofs.state_set.StateSet.insert.Goals as goal

pub invariant_of-self : goal.invariant_of-self
invariant_of-self c =
    AreWords-set c.self.inside.words c.from.result _ c.self.invariant (or_lt 64 _ _ (c.self.invariant.small c.from.result 0 (omega (arith, c.self.invariant.four, c.from.ensures))) (omega arith))

pub returns : goal.returns
returns c =
    rw (c.from.ensures, ← c.self.view_is) (inserted c.self.inside.words c.args.state _ c.self.invariant.four (omega arith) refl)
