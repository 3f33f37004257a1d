use Rattle.hash_engine.specs.Search.{KeepsForBlocks, FirstHaveResults}
use Rattle.hash_engine.proofs.eight.all_forward.Given as goal

abbrev pub invariant-loop-block : goal.invariant-loop-block
invariant-loop-block g l = record {
  keeps : KeepsForBlocks g.Q.Ask.meaning g.Q.Ask.state_count l.fn.rule l.rule l.ahead l.fn.blocks l.fn.table l.table l.memo;
  done : FirstHaveResults (g.Q.Ask.meaning l.fn.rule) l.ahead l.block-index l.fn.blocks l.blocks l.fn.table l.table;
}
