use Rattle.std.proofs.Common.{arith}
use Rattle.plane_core.proofs.Parts.{kid-none, kid-row}
use Rattle.plane_core.proofs.Shared.Sound.{number-listed}
use Rattle.plane_core.proofs.part.Part.kid.Goals as goal

pub returns-then-self-eq0 : goal.returns-then-self-eq0
returns-then-self-eq0 c = kid-none c.args.rows.now c.args.self c.args.q c.if-self-eq0.true

pub bounds-rows-self : goal.bounds-rows-self
bounds-rows-self c = grind (arith, number-listed)

pub returns : goal.returns
returns c = kid-row c.args.rows.now c.args.self c.args.q c.requires.0 (omega arith) (omega arith) (omega arith)
