-- Readings of which the first that fails decides, by their faults.
use Rattle.std.specs.Prelude.{◌≡◌, ◌⊎◌, Result, Ok, Err}

-- what f makes of the value, or the fault that came before
infixl 10 ◌>>=◌
abbrev pub ◌>>=◌ : {A B E : Type 0} → Result A E → (A → Result B E) → Result B E
(Ok x) >>= f = f x
(Err e) >>= f = Err e

-- a call gave what the reading gives
abbrev pub Reads : {X A E : Type 0} → (X → A) → Result X E → Result A E → Type 0
Reads view (Ok x) read = read ≡ Ok (view x)
Reads view (Err e) read = read ≡ Err e

-- a call gave what the reading gives, unless memory ran out, which is the fault `want`
abbrev pub GivesBy : {X A E : Type 0} → E → (X → A) → Result X E → Result A E → Type 0
GivesBy want view (Ok x) read = read ≡ Ok (view x)
GivesBy want view (Err e) read = (e ≡ want) ⊎ (read ≡ Err e)

-- the same of a value that is seen as it is
abbrev pub Gives : {A E : Type 0} → E → Result A E → Result A E → Type 0
Gives want result read = GivesBy want (λ x. x) result read
