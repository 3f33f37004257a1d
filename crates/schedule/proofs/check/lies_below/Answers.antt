use Rattle.std.proofs.Common.{ap, ◌∙◌, nat_lt}
use Rattle.schedule.proofs.Below.{lies_below_is}
use Rattle.schedule.proofs.check.lies_below.Goals as goal

pub returns : goal.returns
returns c = ap (λ s. nat_lt s c.args.states) c.from.ensures
    ∙ lies_below_is c.args.plane.now c.greatest.result c.args.states c.greatest.ensures c.requires
