use Rattle.std.proofs.Common.{arith}
use Rattle.schedule.proofs.Coming.{from-once, from-every}
use Rattle.schedule.proofs.acts.Acts.generations_to.Goals as goal

pub returns-in-Once : goal.returns-in-Once
returns-in-Once c = grind (arith, from-once c.in-Once.generation c.args.far)

pub returns-in-Every : goal.returns-in-Every
returns-in-Every c = grind (arith, from-every c.in-Every.first c.in-Every.every c.in-Every.last c.args.far)
