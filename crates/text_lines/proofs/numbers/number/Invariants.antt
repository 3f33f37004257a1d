use Rattle.text_lines.proofs.Names.{digits_value, is_ascii_digit, list_all, min, take, true, ◌-◌, ◌^◌, ◌≡◌}
use Rattle.text_lines.proofs.numbers.number.Given as goal

abbrev pub invariant-loop-digit : goal.invariant-loop-digit
invariant-loop-digit l = record {
  digits : list_all is_ascii_digit (take l.digit-index l.digits) ≡ true;
  value : l.number ≡ min (2 ^ 64 - 1) (digits_value 10 (take l.digit-index l.digits));
}
