use Rattle.plane_core.proofs.Names.{All, AreRows, CanBeDrawn, drawn, length, world_of_rows, ◌<◌, ◌^◌, ◌≡◌}
use Rattle.plane_core.proofs.lay.lay_rows.Given as goal

abbrev pub invariant-loop-rest : goal.invariant-loop-rest
invariant-loop-rest l = AreRows l.rows.items × (length l.rows.items < 2 ^ 32) × All CanBeDrawn l.rest × (drawn l.rest (world_of_rows l.rows.items) ≡ drawn l.spans (world_of_rows l.fn.rows.items))

abbrev pub decreases-loop-rest : goal.decreases-loop-rest
decreases-loop-rest l = length l.rest
