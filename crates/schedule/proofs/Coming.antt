-- Acting generations that are still to come, one after another.
use Rattle.schedule.proofs.Names.{Every, None, Once, Some, ap, arith, filter, generations_to, if◌then◌else◌, min, nat_le, nat_tests, suc, sym, zero, ℕ, ◌+◌, ◌<◌, ◌∙◌, ◌∷◌, ◌≡◌, ◌≤◌}
use Rattle.schedule.specs.Generations.{from_next}
use Rattle.schedule.proofs.Shared.Acts.{between, between-none, between-alone, between-next, between-up_to}

from-first : (first every most : ℕ)
    → from_next every most (if nat_le first most then Some first else None) ≡ between first every most
from-first first every most = let none = between-none first every most in grind (arith, nat_tests, none)

-- those of one that acts once
pub from-once : (generation far : ℕ)
    → from_next 0 (min far generation) (if nat_le generation (min far generation) then Some generation else None)
    ≡ generations_to far (Once generation)
from-once generation far =
    from-first generation 0 (min far generation) ∙ sym (between-up_to generation 0 generation far)
    ∙ ap (filter (λ g. nat_le g far)) (between-alone generation generation (omega arith))

-- and of one that repeats
pub from-every : (first every last far : ℕ)
    → from_next every (min far last) (if nat_le first (min far last) then Some first else None)
    ≡ generations_to far (Every first every last)
from-every first every last far =
    from-first first every (min far last) ∙ sym (between-up_to first every last far)

-- after a generation comes the next one, if that isn't beyond the most
pub one-more : (first every most : ℕ) → 0 < every → first + every ≤ most
    → from_next every most (Some first) ≡ first ∷ from_next every most (Some (first + every))
one-more first every most some high = between-next first every most some (omega (arith, high))

-- and else none
pub no-more : (first every most : ℕ) → first ≤ most → (0 < every → most < first + every)
    → from_next every most (Some first) ≡ first ∷ from_next every most None
no-more first zero most low high = between-alone first most low
no-more first (suc n) most low high =
    between-next first (suc n) most (omega arith) low
    ∙ ap (λ gs. first ∷ gs) (between-none (first + suc n) (suc n) most (high (omega arith)))
