use Rattle.decision_tree.proofs.Names.{handed_on, head_from, undescribed}
use Rattle.decision_tree.proofs.HeadFaults.{head_from-none}
use Rattle.decision_tree.proofs.tree_reader.read_tree.Goals as goal

pub returns-in_err-head-clause-no_memory : goal.returns-in_err-head-clause-no_memory
returns-in_err-head-clause-no_memory c = λ h.
    absurd (handed_on c.from_residual.result (head_from c.last_line-last.result undescribed c.lines.result.now) c.in_err-head.field-0.0
    c.from_residual.ensures.1 c.in_err-head.ensures.head (head_from-none c.last_line-last.result undescribed c.lines.result.now) h)
