use Rattle.std.proofs.Common.{subst}
use Rattle.tree_translation.specs.PackedForms.{IsPacked}
use Rattle.tree_translation.specs.declared.packed.Form.TheVariants.{Runs}
use Rattle.tree_translation.proofs.Runs.{same-runs}
use Rattle.tree_translation.proofs.packed.PackedPartialEq.eq.Goals as goal

pub returns-in-Runs-Runs : goal.returns-in-Runs-Runs
returns-in-Runs-Runs c =
    let runs = c.in-Runs-Runs.runs in
    let others = c.in-Runs-Runs.others in
    let is : IsPacked (Runs runs) = subst IsPacked c.in-Runs-Runs.is-0 c.self.invariant in
    let other : IsPacked (Runs others) = subst IsPacked c.in-Runs-Runs.is-1 c.other.invariant in
    rw (← c.self.view_is, ← c.other.view_is, c.in-Runs-Runs.is-0, c.in-Runs-Runs.is-1)
    (same-runs runs.items others.items c.eq-in-Runs-Runs.result c.eq-in-Runs-Runs.ensures is.0 other.0)
