use Rattle.plane_core.proofs.Names.{AreQuadrants, [], arith, subst, sym, ◌-◌, ◌∷◌}
use Rattle.plane_core.proofs.Shared.Adding.{quadrants-none, quadrants-row}
use Rattle.plane_core.proofs.Shared.Sound.{number-listed}
use Rattle.plane_core.proofs.raise.quadrants.Goals as goal

pub returns-then-number-eq0 : goal.returns-then-number-eq0
returns-then-number-eq0 c =
    subst (λ n. AreQuadrants c.args.rows.now (c.args.level - 1) n (0 ∷ 0 ∷ 0 ∷ 0 ∷ [])) (sym c.if-number-eq0.true) (quadrants-none c.args.rows.now (c.args.level - 1))

pub bounds-rows-number : goal.bounds-rows-number
bounds-rows-number c = grind (arith, number-listed)

pub returns : goal.returns
returns c = quadrants-row c.args.rows.now c.args.level c.args.number c.requires.rows (omega arith) (omega arith) c.requires.number
