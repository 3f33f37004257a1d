use Rattle.plain_steps.proofs.Names.{All, as_set, map, take, ◌<◌, ◌≡◌}
use Rattle.plain_steps.proofs.generation.sets_of.Given as goal

abbrev pub invariant-loop-cell : goal.invariant-loop-cell
invariant-loop-cell l = record {
  items : l.sets.items ≡ map as_set (take l.cell-index l.cells);
  small : All (λ c. c.state < 256) l.sets.items;
}
