-- Bytes that are taken of what is ahead.
use Rattle.script_lines.proofs.Names.{Ahead, Consumes, Consumes-kept, Consumes-nil, Consumes-trans, Keeps, LineReading, List, TakesBytes, [], ap, arith, length-append, ℕ, ◌++◌, ◌+◌, ◌∷◌, ◌≡◌}

pub takes_none : (a : Ahead) → TakesBytes a a []
takes_none a = record { consumed = Consumes-nil a.bytes; counted = omega arith }

pub takes_then : (a b c : Ahead) (bs cs : List ℕ) → TakesBytes a b bs → TakesBytes b c cs → TakesBytes a c (bs ++ cs)
takes_then a b c bs cs f g = record {
  consumed = Consumes-trans a.bytes b.bytes c.bytes bs cs f.consumed g.consumed;
  counted = omega (arith, length-append bs cs, f.counted, g.counted);
}

pub takes_kept : (a b c : Ahead) (bs : List ℕ) → TakesBytes a b bs → Keeps b.bytes c.bytes → c.room ≡ b.room → TakesBytes a c bs
takes_kept a b c bs t k r = record {
  consumed = Consumes-kept a.bytes b.bytes c.bytes bs t.consumed k;
  counted = omega (arith, t.counted);
}

pub takes_byte : (a b : Ahead) (x : ℕ) → Consumes a.bytes b.bytes (x ∷ []) → b.room + 1 ≡ a.room → TakesBytes a b (x ∷ [])
takes_byte a b x c r = record { consumed = c; counted = r }

pub ahead_is : {R : Type 0} (v w : LineReading R) → v ≡ w → v.ahead ≡ w.ahead
ahead_is {R = R} v w e = ap (λ (x : LineReading R). x.ahead) e
