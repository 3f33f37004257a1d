use Rattle.bit_blocks.proofs.Places.{RowsSoFar}
use Rattle.bit_blocks.proofs.generations.generation_later.Given as goal

abbrev pub invariant-loop-row : goal.invariant-loop-row
invariant-loop-row g l =
    RowsSoFar g.Q.Ask.meaning g.Q.Ask.state_count g.Q.Ask.asks l.fn.rule l.rule l.fn.answers l.answers l.grid.places l.next.places l.count l.row
