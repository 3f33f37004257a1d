-- Bytes, cut in two.
use Rattle.std.specs.Prelude.{ℕ, ◌+◌, ◌==◌, Bool, false, nat_eq, List, [], ◌∷◌, length, take, drop, position, Option, Some, None, if◌then◌else◌}
use Rattle.std.specs.List.{starts_with}
use Rattle.std.specs.Option.{option_map}

-- what f makes of the value, if there is one
infixl 10 ◌>>=◌
abbrev pub ◌>>=◌ : {A B : Type 0} → Option A → (A → Option B) → Option B
None >>= f = None
(Some x) >>= f = f x

-- the first byte is this one
abbrev pub begins_with : ℕ → List ℕ → Bool
begins_with byte [] = false
begins_with byte (b ∷ bs) = b == byte

-- what follows `front` in bytes that begin with it
abbrev pub after : List ℕ → List ℕ → Option (List ℕ)
after front bytes =
    if starts_with nat_eq bytes front then Some (drop (length front) bytes) else None

-- what stands before and behind the first byte that equals this one
abbrev pub cut_at : ℕ → List ℕ → Option (List ℕ × List ℕ)
cut_at byte bytes =
    option_map (λ n. (take n bytes, drop (n + 1) bytes)) (position (λ b. b == byte) bytes)
