use Rattle.schedule.proofs.Names.{IsBoundingBox, blank, rules, sym, ◌∙◌, ◌≡◌}
use Rattle.schedule.proofs.Below.{lies_near_is, lies_near-blank}
use Rattle.schedule.proofs.check.lies_near.Goals as goal

pub returns-in-None : goal.returns-in-None
returns-in-None c =
    let empty : c.args.plane.now ≡ blank = search rules in
    sym (lies_near-blank c.args.plane.now empty)

pub returns-in-Some : goal.returns-in-Some
returns-in-Some c =
    let box : IsBoundingBox c.in-Some.bounds c.args.plane.now = search rules in
    c.box_near.ensures ∙ lies_near_is c.args.plane.now c.in-Some.bounds box
