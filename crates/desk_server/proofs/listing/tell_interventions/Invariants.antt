use Rattle.desk_server.proofs.Names.{IsUnderWay, drop, flat_map, intervention_line, ◌≡◌}
use Rattle.desk_server.proofs.listing.tell_interventions.Given as goal

abbrev pub invariant-loop-intervention : goal.invariant-loop-intervention
invariant-loop-intervention g l = record {
  told : IsUnderWay l.fn.writer.contents l.writer.contents (flat_map intervention_line l.interventions)
      (flat_map intervention_line (drop l.intervention-index l.interventions));
  worked : l.writer.failures ≡ l.fn.writer.failures;
}
