use Rattle.desk_server.proofs.Names.{IsUnderWay, drop, flat_map, part_text, ◌≡◌}
use Rattle.desk_server.proofs.parts.tell_parts.Given as goal

abbrev pub invariant-loop-part : goal.invariant-loop-part
invariant-loop-part g l = record {
  told : IsUnderWay l.fn.writer.contents l.writer.contents (flat_map part_text l.parts)
      (flat_map part_text (drop l.part-index l.parts));
  worked : l.writer.failures ≡ l.fn.writer.failures;
}
