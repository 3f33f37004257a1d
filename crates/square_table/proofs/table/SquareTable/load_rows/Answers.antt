use Rattle.std.proofs.Common.{rules}
use Rattle.square_table.proofs.Loading.{GrowsFrom-then, AreBlanks-grows}
use Rattle.square_table.proofs.table.SquareTable.load_rows.Goals as goal

pub loop-self-preserved : goal.loop-self-preserved
loop-self-preserved c = record {
  grows = GrowsFrom-then 0 c.args.squares.now c.args.self.now c.loop-self.self c.push_next.new.self c.loop-self.invariant.grows c.in_ok-push_next.ensures.grows;
  blanks = AreBlanks-grows c.loop-self.self c.push_next.new.self c.args.blanks.now c.in_ok-push_next.ensures.grows.grows c.loop-self.invariant.blanks;
  loaded = c.in_ok-push_next.ensures.loaded;
}

pub push_next-requires-clause-loading : goal.push_next-requires-clause-loading
push_next-requires-clause-loading c = search (rules)
