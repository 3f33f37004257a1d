use Rattle.hash_engine.proofs.Names.{length, ◌+◌, ◌≡◌}
use Rattle.hash_engine.specs.Small.{HasFours, KeepsRest}
use Rattle.hash_engine.proofs.small.lay_small.Given as goal

abbrev pub invariant-loop-place : goal.invariant-loop-place
invariant-loop-place l = record {
  rest : KeepsRest l.initial.table l.table;
  fours : HasFours l.place l.table.rows;
  count : length l.table.rows ≡ 16 + l.place;
}
