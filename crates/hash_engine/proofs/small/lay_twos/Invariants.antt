use Rattle.hash_engine.proofs.Names.{length, ◌≡◌}
use Rattle.hash_engine.specs.Small.{HasTwos, KeepsRest}
use Rattle.hash_engine.proofs.small.lay_twos.Given as goal

abbrev pub invariant-loop-place : goal.invariant-loop-place
invariant-loop-place l = record {
  rest : KeepsRest l.initial.table l.table;
  twos : HasTwos l.place l.table.rows;
  count : length l.table.rows ≡ l.place;
}
