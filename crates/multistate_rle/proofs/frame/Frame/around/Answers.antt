use Rattle.multistate_rle.proofs.Names.{IsBoundingBox, ap, arith, frame_of, rules, sym, ◌∙◌}
use Rattle.multistate_rle.proofs.Boxes.{box_of_blank, box_of_live, same_frame}
use Rattle.multistate_rle.proofs.frame.Frame.around.Goals as goal

pub returns-in_default-clause-frame : goal.returns-in_default-clause-frame
returns-in_default-clause-frame c = grind (arith, box_of_blank)

pub returns-clause-frame : goal.returns-clause-frame
returns-clause-frame c =
    let box : IsBoundingBox c.in-Some.bounds c.args.plane.now = search rules in
    same_frame (search rules) (search rules) (search rules) (search rules) ∙ ap frame_of (sym (box_of_live c.args.plane.now c.in-Some.bounds box))
