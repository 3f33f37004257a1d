use Rattle.multistate_rle.proofs.Names.{drop, finished, map, of_cell, tokens_on, ◌+◌, ◌≡◌, ◌≤◌}
use Rattle.multistate_rle.proofs.body.Body.push_rest.Given as goal

abbrev pub invariant-loop-cell : goal.invariant-loop-cell
invariant-loop-cell l = record {
  written : finished l.self (tokens_on l.left l.run (map of_cell (drop l.cell-index l.cells))) ≡ finished l.fn.self (tokens_on l.left l.fn.run (map of_cell l.cells));
  count : l.run.count ≤ l.fn.run.count + l.cell-index;
}
