use Rattle.schedule.proofs.Names.{arith, nat_tests, ◌≡◌}
use Rattle.schedule.proofs.Shared.Branches.{forks_near, parents_before}
use Rattle.schedule.proofs.Shared.Felt.{felt-back, felt-here}
use Rattle.schedule.proofs.branch.is_felt.Goals.{then-loop-at-test+else-at-ne0, else-loop-at-test}
use Rattle.schedule.proofs.branch.is_felt.Goals as goal

pub overflow_add-until : goal.overflow_add-until
overflow_add-until c =
    let near = forks_near c.args.branches.now c.requires c.loop-at.at in grind (arith, near)

pub loop-at-smaller : goal.loop-at-smaller
loop-at-smaller c =
    let before = parents_before c.args.branches.now c.requires c.loop-at.at in grind (arith, before)

pub loop-at-preserved : goal.loop-at-preserved
loop-at-preserved c =
    let back = felt-back c.args.branches.now (parents_before c.args.branches.now c.requires) c.loop-at.at
    c.loop-at.until c.args.changed c.args.from in
    grind (arith, nat_tests, back)

pub returns-then-at-changed : goal.returns-then-at-changed
returns-then-at-changed c =
    let here = felt-here c.args.branches.now c.loop-at.at c.loop-at.until c.args.changed c.args.from in
    grind (arith, nat_tests, here)

pub returns-else-at-changed : goal.returns-else-at-changed
returns-else-at-changed c =
    let root : c.loop-at.at ≡ 0 = elim c.loop-at-test.branch [
      | then-loop-at-test+else-at-ne0 w ↦ omega (arith, w.if-at-ne0.false)
      | else-loop-at-test w ↦ absurd (c.if-at-changed.false (omega (arith, w.loop-at-test.false)))
    ] in
    let here = felt-here c.args.branches.now c.loop-at.at c.loop-at.until c.args.changed c.args.from (λ _. root) in
    grind (arith, nat_tests, here)
