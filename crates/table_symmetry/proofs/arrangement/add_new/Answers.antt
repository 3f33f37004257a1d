use Rattle.table_symmetry.proofs.Names.{ap, lists_in, ◌∙◌}
use Rattle.table_symmetry.proofs.Arranged.{key-inserted}
use Rattle.table_symmetry.proofs.arrangement.add_new.Goals as goal

pub returns : goal.returns
returns c = ap lists_in c.in_ok-insert.ensures.keys ∙ key-inserted c.args.lists.now.keys c.args.list
