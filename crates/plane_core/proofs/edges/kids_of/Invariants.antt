use Rattle.plane_core.proofs.Names.{flat_map, edge_kids, row_at, take, ◌≡◌}
use Rattle.plane_core.proofs.edges.kids_of.Given as goal

abbrev pub invariant-loop-number : goal.invariant-loop-number
invariant-loop-number l = l.kids.items ≡ flat_map (λ m. edge_kids l.edge (row_at l.rows m)) (take l.number-index l.band)
