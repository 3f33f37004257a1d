use Rattle.plane_core.proofs.Names.{IsNumber, length, subst, sym}
use Rattle.plane_core.proofs.Shared.Roots.{rooted}
use Rattle.plane_core.proofs.walk.walked.Goals as goal

pub walk_square-requires-clause-number : goal.walk_square-requires-clause-number
walk_square-requires-clause-number c = subst (λ k. IsNumber c.args.rows.now k (length c.args.rows.now)) (sym c.root_level.ensures.level) (rooted c.args.rows.now c.requires.rows).number
