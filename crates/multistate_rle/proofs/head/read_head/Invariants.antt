use Rattle.multistate_rle.proofs.Names.{IfSome, None, Origin, drop, head_from, is_placed, length, lines, plain_origin, true, ◌-◌, ◌≡◌, ◌≤◌}
use Rattle.multistate_rle.proofs.head.read_head.Given as goal

abbrev pub invariant-loop-len : goal.invariant-loop-len
invariant-loop-len l = record {
  found : Origin;
  head : head_from found l.len (lines (drop l.len l.text)) ≡ head_from plain_origin 0 (lines l.text);
  known : IfSome l.origin (λ origin. origin ≡ found);
  within : l.len ≤ length l.text;
  placed : is_placed (lines (drop l.len l.text)) ≡ true → is_placed (lines l.text) ≡ true;
  wanted : l.origin ≡ None → is_placed (lines l.text) ≡ true;
}

abbrev pub decreases-loop-len : goal.decreases-loop-len
decreases-loop-len l = length l.text - l.len
