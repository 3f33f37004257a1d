use Rattle.std.proofs.Common.{arith}
use Rattle.schedule.proofs.Coming.{one-more, no-more}
use Rattle.schedule.proofs.generations.after.Goals as goal

pub returns-in-Some-clause-rest : goal.returns-in-Some-clause-rest
returns-in-Some-clause-rest c = grind (arith, one-more c.args.generation c.args.every c.args.most)

pub returns-in_default-clause-rest : goal.returns-in_default-clause-rest
returns-in_default-clause-rest c =
    no-more c.args.generation c.args.every c.args.most c.requires (λ some. omega (arith, c.in-Some.ensures.1))

pub returns-in_default-2-clause-rest : goal.returns-in_default-2-clause-rest
returns-in_default-2-clause-rest c =
    no-more c.args.generation c.args.every c.args.most c.requires (λ some. omega arith)

pub returns-in_default-3-clause-rest : goal.returns-in_default-3-clause-rest
returns-in_default-3-clause-rest c =
    no-more c.args.generation c.args.every c.args.most c.requires (λ some. omega (arith, c.in_default.ensures))
