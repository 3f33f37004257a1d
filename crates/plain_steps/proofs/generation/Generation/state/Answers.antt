use Rattle.plain_steps.proofs.Names.{World, ap, arith, cell, false, ints, sym, true, ◌∙◌, ◌≡◌}
use Rattle.plain_steps.proofs.Together.{dead_outside}
use Rattle.plain_steps.proofs.generation.Generation.state.Goals as goal

pub returns-else-holds : goal.returns-else-holds
returns-else-holds c =
    sym (sym (ap (λ (w : World). cell w c.args.spot.x c.args.spot.y) c.self.view_is)
    ∙ dead_outside c.self.inside.cells.items c.self.inside.patch c.args.spot.x c.args.spot.y c.self.invariant (λ held. let no : true ≡ false = sym (c.holds.ensures.1 (omega (arith, ints))) ∙ c.if-holds.false in cc))
