-- What a reader has left, behind a buffer.
use Rattle.script_lines.proofs.Names.{Ahead, Err, IsDrained, IsDrawn, LineReading, List, Ok, OnErr, Option, Result, [], ahead, ap, arith, bytes_left, left, prepend_known, prepend_known-nil, slice_range, ℕ, ◌-◌, ◌^◌, ◌∙◌, ◌≡◌}
use Rattle.script_lines.specs.declared.input.Input.{Input}

pub on_err : {T E : Type 0} (r : Result T E) (P : Type 0) → P → OnErr r P
on_err (Ok x) P h = tt
on_err (Err e) P h = h

-- nothing is left in a buffer that was drained
pub drained_left : (remaining : Option (List ℕ)) (input : Input) → IsDrained input.unread → left remaining input ≡ remaining
drained_left remaining input d =
    let none : slice_range input.bytes input.unread.at input.unread.end ≡ [] = grind (arith, d) in
    ap (λ t. prepend_known t remaining) none ∙ prepend_known-nil remaining

pub drained_room : (given : ℕ) (input : Input) → IsDrained input.unread → bytes_left given input ≡ 2 ^ 64 - 1 - given
drained_room given input d = omega (arith, d)

pub is_drawn : {R : Type 0} (remaining : R → Option (List ℕ)) (reader : LineReading R) (input : Input) → reader.ahead ≡ ahead (remaining reader.inner) reader.given input → IsDrained input.unread → IsDrawn remaining reader
is_drawn remaining reader input e d = record {
  bytes = ap (λ (a : Ahead). a.bytes) e ∙ drained_left (remaining reader.inner) input d;
  room = ap (λ (a : Ahead). a.room) e ∙ drained_room reader.given input d;
}
