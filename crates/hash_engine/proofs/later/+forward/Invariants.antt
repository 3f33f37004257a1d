use Rattle.hash_engine.proofs.Names.{AsksForAll, KeepsForAll, ◌*◌, ◌+◌, ◌≡◌}
use Rattle.hash_engine.proofs.Computing.{AreDone, FirstAreMade}
use Rattle.hash_engine.proofs.later.+forward.Given as goal

abbrev pub decreases-all_forward : goal.decreases-all_forward
decreases-all_forward g l = 4 * l.k + 4

abbrev pub decreases-compute : goal.decreases-compute
decreases-compute g l = 4 * l.k + 2

abbrev pub decreases-by_parts : goal.decreases-by_parts
decreases-by_parts g l = 4 * l.k + 1

abbrev pub decreases-forward : goal.decreases-forward
decreases-forward g l = 4 * l.k + 3

abbrev pub invariant-all_forward-loop-number : goal.invariant-all_forward-loop-number
invariant-all_forward-loop-number g l = record {
  keeps : KeepsForAll g.Q.Ask.meaning g.Q.Ask.state_count l.fn.rule l.rule l.k l.ahead l.fn.numbers l.fn.table l.table l.memo;
  went_on : g.S.Stop.yes_count l.stop ≡ g.S.Stop.yes_count l.fn.stop;
  made : FirstAreMade (g.Q.Ask.meaning l.fn.rule) l.k l.ahead l.number-index l.fn.numbers l.fn.table l.fn.memo l.table l.memo;
  done : AreDone (g.Q.Ask.meaning l.fn.rule) l.k l.ahead l.number-index l.fn.numbers l.numbers l.fn.table l.fn.memo l.table;
  asks : AsksForAll g.Q.Ask.meaning g.Q.Ask.asks l.k l.ahead l.fn.numbers l.fn.rule l.fn.table l.fn.memo l.rule l.table l.memo;
}
