-- What is hashed of an entry.
use Rattle.std.specs.Prelude.{◌≡◌, ℕ, nat_eq, true}
use Rattle.std.specs.Hash as fed
use Rattle.std.proofs.Common.{ap}
use Rattle.std.proofs.lemmas.Bool.{eqb-true}

-- of equal entries the same is hashed
pub same_input : (a b : ℕ) → nat_eq a b ≡ true → fed.u32 a ≡ fed.u32 b
same_input a b h = ap fed.u32 (eqb-true a b h)
