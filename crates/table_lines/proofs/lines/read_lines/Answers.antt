use Rattle.table_lines.proofs.Names.{handed_on, head_from, headed, undescribed}
use Rattle.table_lines.proofs.HeadFaults.{head_from-none}
use Rattle.table_lines.proofs.Shared.SaidTables.{lines-read}
use Rattle.table_lines.proofs.lines.read_lines.Goals as goal

pub invariant_of-result : goal.invariant_of-result
invariant_of-result c =
    let table = headed c.in_ok-head.head c.in_ok-transitions.transitions.items in
    rw c.from_vec.ensures (lines-read c.lines.result.now table (rw (c.in_ok-head.ensures.head, c.in_ok-transitions.ensures)))

pub returns-in_err-head-clause-no_memory : goal.returns-in_err-head-clause-no_memory
returns-in_err-head-clause-no_memory c = λ h.
    absurd (handed_on c.from_residual.result (head_from undescribed c.lines.result.now) c.in_err-head.field-0.0 c.from_residual.ensures.1 c.in_err-head.ensures.head (head_from-none undescribed c.lines.result.now) h)
