-- The new numbers of squares.
use Rattle.square_table.proofs.Names.{Some, Stamps, ap, arith, get_or-set_other, get_or-set_same, known_of, le-leb, length, refl, sym, with_known, ℕ, ◌+◌, ◌<◌, ◌≡◌}

-- a square that is given a new number has it, and others have those that they had
pub known_same : (r : Stamps) (n m : ℕ) → n < length r.stamps → known_of (with_known r n m) n ≡ Some m
known_same r n m there = rw (get_or-set_same r.stamps n (r.base + m) 0 there, le-leb r.base (r.base + m) (omega arith)) (ap Some (omega arith))

pub known_other : (r : Stamps) (n m q : ℕ) → (n ≡ q → ⊥) → known_of (with_known r n m) q ≡ known_of r q
known_other r n m q other = rw (get_or-set_other r.stamps n q (r.base + m) 0 (λ same. other (sym same))) refl
