use Rattle.std.proofs.Common.{arith}
use Rattle.plane_core.proofs.Woven.{pair-narrow, pair-wide}
use Rattle.plane_core.proofs.weave.pair_at.Goals as goal

pub returns-then-until-x : goal.returns-then-until-x
returns-then-until-x c =
    pair-wide c.args.north.now c.args.south.now c.args.x c.args.y c.reach_at-nw.result.number c.reach_at-sw.result.number c.reach_at-nw.result.until c.reach_at-sw.result.until
    c.min-until.result c.reach_at-nw.ensures c.reach_at-sw.ensures (omega arith) (omega arith) (omega arith)

pub returns : goal.returns
returns c =
    pair-narrow c.args.north.now c.args.south.now c.past.result.now c.past-2.result.now c.args.x c.args.y c.reach_at-nw.result.number c.reach_at-sw.result.number c.reach_at-ne.result.number c.reach_at-se.result.number
    c.reach_at-nw.result.until c.reach_at-sw.result.until c.reach_at-ne.result.until c.reach_at-se.result.until c.reach_at-nw.ensures c.reach_at-sw.ensures c.past.ensures c.past-2.ensures
    c.reach_at-ne.ensures c.reach_at-se.ensures c.requires.x
