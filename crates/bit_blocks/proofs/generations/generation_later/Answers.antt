use Rattle.bit_blocks.proofs.Known.{keeps_then}
use Rattle.bit_blocks.proofs.Places.{rows_more}
use Rattle.bit_blocks.proofs.generations.generation_later.Goals as goal

pub loop-row-preserved : goal.loop-row-preserved
loop-row-preserved g c =
    let so_far = c.loop-row.invariant in
    let row = c.in_ok-row_later.ensures in
    record {
      keeps = keeps_then g.Q.Ask.meaning g.Q.Ask.state_count g.Q.Ask.asks _ _ _ _ _ _ so_far.keeps row.keeps;
      rows = rows_more _ _ _ _ _ c.args.count c.loop-row.row c.requires.room so_far.keeps.rule.meaning so_far.rows row.before row.later;
    }
