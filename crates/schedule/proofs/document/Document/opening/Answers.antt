use Rattle.std.proofs.Common.{◌∙◌}
use Rattle.schedule.proofs.Sounds.{IsSound-opening}
use Rattle.schedule.proofs.document.Document.opening.Goals as goal

pub invariant_of-result : goal.invariant_of-result
invariant_of-result c = IsSound-opening _ _ _ _ _ c.args.revision (c.in_ok-new.ensures.ok ∙ c.in_ok-still.ensures)
    (c.in_ok-new-2.ensures.ok ∙ c.empty.ensures) c.new-3.ensures.items c.new-4.ensures.items c.new-5.ensures.items

pub returns-clause-sound : goal.returns-clause-sound
returns-clause-sound c = IsSound-opening _ _ _ _ _ c.args.revision (c.in_ok-new.ensures.ok ∙ c.in_ok-still.ensures)
    (c.in_ok-new-2.ensures.ok ∙ c.empty.ensures) c.new-3.ensures.items c.new-4.ensures.items c.new-5.ensures.items
