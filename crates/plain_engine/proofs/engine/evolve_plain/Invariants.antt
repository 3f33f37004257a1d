use Rattle.std.proofs.Common.{◌-◌, ◌≡◌}
use Rattle.worlds.specs.Iterate.{iterate}
use Rattle.worlds.specs.Range.{AllBelow, HasMargin}
use Rattle.worlds.specs.Step.{step}
use Rattle.plain_engine.proofs.engine.evolve_plain.Given as goal

abbrev pub invariant-loop : goal.invariant-loop
invariant-loop g l = record {
  stepped : l.now ≡ iterate l.counter (step (g.R.Next.meaning l.rule)) l.plane;
  below : AllBelow (g.R.Next.state_count l.rule) l.now;
  fits : HasMargin (l.generations - l.counter) l.now;
  asked : g.S.Stop.yes_count l.stop ≡ g.S.Stop.yes_count l.initial.stop;
}
