use Rattle.hash_engine.specs.Blocks.{no_block}
use Rattle.hash_engine.proofs.ByBlocks.{turn_can, turn_keeps, turn_done}
use Rattle.hash_engine.proofs.eight.all_forward.Goals as goal

pub forward-requires : goal.forward-requires
forward-requires g c = turn_can c.requires c.loop-block-test.true c.loop-block.invariant.keeps c.loop-block.invariant.done no_block

pub returns-in_err-block-clause-keeps : goal.returns-in_err-block-clause-keeps
returns-in_err-block-clause-keeps g c =
    turn_keeps c.requires c.loop-block-test.true c.loop-block.invariant.keeps c.loop-block.invariant.done no_block c.forward.ensures.keeps

pub loop-block-preserved : goal.loop-block-preserved
loop-block-preserved g c =
    let was = c.loop-block.invariant in
    let now = c.in_ok-block.ensures in
    let below = c.loop-block-test.true in
    record {
      keeps = turn_keeps c.requires below was.keeps was.done no_block now.keeps;
      done = turn_done c.requires below was.keeps was.done no_block now.keeps now.found;
    }
