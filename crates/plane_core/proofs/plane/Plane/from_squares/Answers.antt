use Rattle.std.proofs.Common.{◌∙◌}
use Rattle.plane_core.proofs.Shared.Tidy.{IfOk_then, tidied}
use Rattle.plane_core.proofs.plane.Plane.from_squares.Goals as goal

pub from_walked-requires : goal.from_walked-requires
from_walked-requires c = (tidied c.args.rows.now c.in_ok-walked.field-0.items c.requires c.in_ok-walked.ensures.rows).walked

pub returns : goal.returns
returns c = IfOk_then c.from_walked.result c.from_walked.ensures (λ plane is. is ∙ (tidied c.args.rows.now c.in_ok-walked.field-0.items c.requires c.in_ok-walked.ensures.rows).world)
