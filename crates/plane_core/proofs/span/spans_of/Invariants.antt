use Rattle.plane_core.proofs.Names.{All, CanBeDrawn, cells_of_spans, take, ◌≡◌}
use Rattle.plane_core.proofs.span.spans_of.Given as goal

abbrev pub invariant-loop-cell : goal.invariant-loop-cell
invariant-loop-cell l = record {
  cells : cells_of_spans l.spans.items ≡ take l.cell-index l.cells;
  range : All CanBeDrawn l.spans.items;
}
