use Rattle.tree_translation.proofs.Names.{All, TreatsAlike, take, ◌%◌, ◌+◌, ◌≤◌}
use Rattle.tree_translation.proofs.near.states_alike.Given as goal

abbrev pub invariant-loop-number : goal.invariant-loop-number
invariant-loop-number l = record {
  some : 1 ≤ l.count;
  within : l.state % 64 + l.count ≤ 64;
  alike : All (TreatsAlike l.layer l.state l.count) (take l.number-index l.list);
}
