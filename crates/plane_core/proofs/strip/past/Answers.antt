use Rattle.std.proofs.Common.{arith, sym, ◌∙◌}
use Rattle.plane_core.proofs.Strips.{left-here, left-more, left-none}
use Rattle.plane_core.proofs.strip.past.Goals as goal

pub returns-then-not-is_before : goal.returns-then-not-is_before
returns-then-not-is_before c = left-here c.args.strips.now c.loop-i.i c.args.x c.args.y c.loop-i-test.true (sym c.is_before.ensures ∙ c.if-not-is_before.true) c.loop-i.invariant

pub loop-i-preserved : goal.loop-i-preserved
loop-i-preserved c = left-more c.args.strips.now c.loop-i.i c.args.x c.args.y c.loop-i-test.true (sym c.is_before.ensures ∙ c.if-not-is_before.false) c.loop-i.invariant

pub returns : goal.returns
returns c = left-none c.args.strips.now c.loop-i.i c.args.x c.args.y (omega arith) c.loop-i.invariant
