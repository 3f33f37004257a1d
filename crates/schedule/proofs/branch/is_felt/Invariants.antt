use Rattle.schedule.proofs.Names.{is_felt, ◌≡◌}
use Rattle.schedule.proofs.branch.is_felt.Given as goal

abbrev pub invariant-loop-at : goal.invariant-loop-at
invariant-loop-at l =
    is_felt l.branches l.at l.at l.until l.changed l.from
    ≡ is_felt l.branches l.branch l.branch l.generation l.changed l.from

abbrev pub decreases-loop-at : goal.decreases-loop-at
decreases-loop-at l = l.at
