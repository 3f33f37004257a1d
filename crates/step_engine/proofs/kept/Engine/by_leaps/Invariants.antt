use Rattle.step_engine.proofs.Names.{iterate, step, ◌*◌, ◌+◌, ◌-◌, ◌≡◌, ◌≤◌}
use Rattle.step_engine.proofs.kept.Engine.by_leaps.Given as goal

abbrev pub invariant-loop-left : goal.invariant-loop-left
invariant-loop-left g l = record {
  same : l.self ≡ l.initial.self;
  unasked : g.S.Stop.yes_count l.stop ≡ g.S.Stop.yes_count l.initial.stop;
  few : l.left ≤ l.generations;
  short : 4096 * l.least ≤ l.generations + 4095;
  some : (1 ≤ l.generations) → 1 ≤ l.least;
  length : (1 ≤ l.length) × (l.length ≤ 1152921504606846976);
  came : l.now ≡ iterate (l.generations - l.left) (step (g.R.Next.meaning l.initial.self.rule)) l.plane;
}

abbrev pub decreases-loop-left : goal.decreases-loop-left
decreases-loop-left g l = 1152921504606846976 * l.left + l.length
