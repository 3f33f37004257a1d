-- Steps added up, and arrivals with nothing laid.
use Rattle.std.proofs.Common.{◌≡◌, ℕ, zero, suc, ◌+◌, ◌-◌, ◌<◌, ◌≤◌, List, [], refl, ap, ◌∙◌, sym, arith, zero-add}
use Rattle.worlds.specs.declared.cell.CellSet.{CellSet}
use Rattle.worlds.specs.World.{World}
use Rattle.worlds.specs.Lay.{lay}
use Rattle.worlds.specs.Step.{step}
use Rattle.worlds.specs.Iterate.{iterate}
use Rattle.worlds.specs.Arrival.{arrive}

-- a function applied m + n times
pub iterate-add : {A : Type 0} (f : A → A) (a : A) (m n : ℕ) → iterate (m + n) f a ≡ iterate m f (iterate n f a)
unfolding iterate
iterate-add f a zero n = rw (zero-add) refl
iterate-add f a (suc m) n =
    let more : suc m + n ≡ suc (m + n) = omega arith in
    rw more (ap f (iterate-add f a m n))

-- a function that leaves a alone leaves it alone however often
pub iterate-fixed : {A : Type 0} (f : A → A) (a : A) (n : ℕ) → f a ≡ a → iterate n f a ≡ a
unfolding iterate
iterate-fixed f a zero same = refl
iterate-fixed f a (suc n) same = ap f (iterate-fixed f a n same) ∙ same

-- what a function leaves alone after k times it leaves alone after any more
pub still-iterate : {A : Type 0} (f : A → A) (a b : A) (k n : ℕ) → k ≤ n → b ≡ iterate k f a → f b ≡ b → b ≡ iterate n f a
still-iterate f a b k n le is same =
    let apart : (n - k) + k ≡ n = omega arith in
    sym (iterate-fixed f b (n - k) same) ∙ ap (iterate (n - k) f) is ∙ sym (iterate-add f a (n - k) k) ∙ ap (λ i. iterate i f a) apart

pub arrive-undisturbed : (next : List ℕ → ℕ) (cells : ℕ → List CellSet) (start : World) (g : ℕ) → ((k : ℕ) → k < g → cells k ≡ []) → arrive next cells start g ≡ iterate g (step next) start
unfolding arrive iterate
arrive-undisturbed next cells start zero none = refl
arrive-undisturbed next cells start (suc g) none = λ i. step next (lay (none g (omega arith) i) (arrive-undisturbed next cells start g (λ k h. none k (omega arith)) i))
