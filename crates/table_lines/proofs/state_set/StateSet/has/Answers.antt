use Rattle.table_lines.proofs.Names.{arith, has-rising, is_bit_set, shr_and_one, sym}
use Rattle.table_lines.proofs.state_set.StateSet.has.Goals as goal

pub returns : goal.returns
returns c = rw (shr_and_one, c.from.ensures, ← c.self.view_is) (sym (has-rising (is_bit_set c.self.inside.words) c.args.state (omega arith)))
