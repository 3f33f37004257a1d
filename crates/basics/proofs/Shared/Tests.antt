-- What tests tell.
use Rattle.std.proofs.Common.{◌≡◌, ℕ, Bool, true, false, cond, Some, None, refl}
use Rattle.std.specs.Prelude.{T, ◌&&◌}

-- both of two tests
pub first : (a b : Bool) → T (a && b) → T a
first true b p = tt
first false b p = p

pub second : (a b : Bool) → T (a && b) → T b
second true b p = p
second false b p = absurd p

-- a place that is given where a test holds
pub some_place : (b : Bool) (k n : ℕ) → cond b (Some k) None ≡ Some n → (b ≡ true) × (k ≡ n)
some_place true k n h = (refl, cc)
some_place false k n h = absurd cc

pub no_place : (b : Bool) (k : ℕ) → cond b (Some k) None ≡ None → b ≡ false
no_place true k h = absurd cc
no_place false k h = refl
