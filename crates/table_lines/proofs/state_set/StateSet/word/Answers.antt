use Rattle.table_lines.proofs.Names.{arith, sym, word-kept}
use Rattle.table_lines.proofs.state_set.StateSet.word.Goals as goal

pub returns : goal.returns
returns c = rw (← c.self.view_is) (sym (word-kept c.self.inside.words c.args.number c.requires (c.self.invariant.small c.args.number 0 (omega (arith, c.requires, c.self.invariant.four)))))
