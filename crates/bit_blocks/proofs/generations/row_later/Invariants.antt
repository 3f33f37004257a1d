use Rattle.bit_blocks.proofs.Places.{RowSoFar}
use Rattle.bit_blocks.proofs.generations.row_later.Given as goal

abbrev pub invariant-loop-place : goal.invariant-loop-place
invariant-loop-place g l =
    RowSoFar g.Q.Ask.meaning g.Q.Ask.state_count g.Q.Ask.asks l.fn.rule l.rule l.fn.answers l.answers l.grid.places l.fn.next.places l.next.places l.first l.place l.left
