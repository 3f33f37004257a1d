use Rattle.plane_core.proofs.Woven.{same_four}
use Rattle.plane_core.proofs.Weaving.{root-added}
use Rattle.plane_core.proofs.weave.push_root.Goals as goal

pub returns : goal.returns
returns c = λ w are.
    root-added c.args.rows.now.items c.args.level c.args.strips.now w c.side-middle.result are c.requires.level c.side-middle.ensures.value c.push_row.new.rows.items c.in_ok-push_row.field-0 _
    (same_four _ _ _ _ _ _ _ _ c.number_at.ensures c.number_at-2.ensures c.number_at-3.ensures c.number_at-4.ensures) c.in_ok-push_row.ensures
