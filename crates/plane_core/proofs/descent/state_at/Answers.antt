use Rattle.std.proofs.Common.{sym, rules}
use Rattle.plane_core.proofs.Parts.{root-outside}
use Rattle.plane_core.proofs.descent.state_at.Goals as goal

pub returns-else-covers : goal.returns-else-covers
returns-else-covers c = sym (root-outside c.args.rows.now c.root-root.result _ _ c.root-root.ensures (λ h. let t = c.covers.ensures.1 h in search rules))
