use Rattle.std.proofs.Common.{refl}
use Rattle.step_engine.proofs.Boxes.{IsInRange-box, HasMargin-box, HasMargin-blank}
use Rattle.step_engine.proofs.margin.fits.Goals as goal

pub box_fits-requires : goal.box_fits-requires
box_fits-requires c = IsInRange-box c.in-Some.bounds c.args.plane.now c.bounds.ensures.in_range c.in-Some.ensures.some

pub returns-in-None : goal.returns-in-None
returns-in-None c = (λ _. HasMargin-blank c.args.generations c.args.plane.now (c.in-None.ensures.none.0 refl), λ _. refl)

pub returns-in-Some : goal.returns-in-Some
returns-in-Some c =
    let same = HasMargin-box c.args.generations c.in-Some.bounds c.args.plane.now c.in-Some.ensures.some in
    (λ h. same.0 (c.box_fits.ensures.0 h), λ h. c.box_fits.ensures.1 (same.1 h))
