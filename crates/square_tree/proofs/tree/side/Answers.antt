use Rattle.square_tree.proofs.Names.{arith, pow_mono, ◌^◌, ◌≤◌}
use Rattle.square_tree.proofs.tree.side.Goals as goal

pub returns-clause-fits : goal.returns-clause-fits
returns-clause-fits c = let mono : 2 ^ c.args.level ≤ 2 ^ 62 = pow_mono c.requires in omega (arith, mono)
