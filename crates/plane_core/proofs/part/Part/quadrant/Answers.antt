use Rattle.std.proofs.Common.{refl, arith, rules}
use Rattle.plane_core.proofs.Parts.{quadrant-IsPart, shows-quadrant}
use Rattle.plane_core.proofs.part.Part.quadrant.Goals as goal

pub returns-clause-part : goal.returns-clause-part
returns-clause-part c = quadrant-IsPart c.args.rows.now c.args.q c.args.self _ (omega arith) c.requires.0 (search rules) c.kid.ensures

pub returns-clause-cells : goal.returns-clause-cells
returns-clause-cells c = λ w shows. shows-quadrant w c.args.rows.now c.args.q c.args.self _ refl (omega arith) (search rules) c.kid.ensures shows
