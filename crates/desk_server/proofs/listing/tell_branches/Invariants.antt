use Rattle.desk_server.proofs.Names.{IsUnderWay, branch_line, drop, flat_map, ◌≡◌}
use Rattle.desk_server.proofs.listing.tell_branches.Given as goal

abbrev pub invariant-loop-branch : goal.invariant-loop-branch
invariant-loop-branch g l = record {
  told : IsUnderWay l.fn.writer.contents l.writer.contents (flat_map branch_line l.branches)
      (flat_map branch_line (drop l.branch-index l.branches));
  worked : l.writer.failures ≡ l.fn.writer.failures;
}
