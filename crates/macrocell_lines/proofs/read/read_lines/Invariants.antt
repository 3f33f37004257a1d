use Rattle.macrocell_lines.proofs.Names.{AreNodes, Ok, after_lines, drop, length, nothing_said, said_of, take, ◌+◌, ◌-◌, ◌<◌, ◌^◌, ◌≡◌, ◌≤◌}
use Rattle.macrocell_lines.proofs.read.read_lines.Given as goal

abbrev pub invariant-loop-line : goal.invariant-loop-line
invariant-loop-line l = record {
  read : after_lines (l.number + 1) (said_of l.heading l.nodes.items) l.lines ≡ after_lines 2 nothing_said l.fn.lines;
  passed : after_lines 2 nothing_said (take (l.number - 1) l.fn.lines) ≡ Ok (said_of l.heading l.nodes.items);
  left : drop (l.number - 1) l.fn.lines ≡ l.lines;
  nodes : AreNodes l.nodes.items;
  low : 1 ≤ l.number;
  few : l.number + length l.lines < 2 ^ 64;
}

abbrev pub decreases-loop-line : goal.decreases-loop-line
decreases-loop-line l = length l.lines
