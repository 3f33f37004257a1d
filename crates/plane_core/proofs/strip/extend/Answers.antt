use Rattle.plane_core.proofs.Strips.{extended, extended-none}
use Rattle.plane_core.proofs.strip.extend.Goals as goal

pub returns-then-strip-eq0 : goal.returns-then-strip-eq0
returns-then-strip-eq0 c = extended-none c.args.strips.now.items c.args.strip c.if-strip-eq0.true

pub returns : goal.returns
returns c = extended c.args.strips.now.items c.push.new.self.items c.args.strip c.in_ok-push.ensures.items
