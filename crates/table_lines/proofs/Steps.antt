-- One line of a head and what comes behind it: where the line is a descriptor, a first reading and then a later one, and else another.
use Rattle.table_lines.proofs.Names.{Described, GivesToo, Ok, Option, Result, RuleFault, WantsNone, arith, is_some, option_map_or, true, ◌>>=◌, ◌≡◌}

-- the reading of such a line
abbrev pub step : {A X : Type 0} → Option X → (X → Result Described RuleFault) → (Described → Result A RuleFault) → Result A RuleFault → Result A RuleFault
step o first later other = option_map_or (λ x. first x >>= later) o other

module _ {A X : Type 0} (o : Option X) (first : X → Result Described RuleFault) (f : Described → Result A RuleFault) (r : Result A RuleFault) where
  -- what holds of all that is read either way
  pub by_step : (P : A → Type 0) (Q : Described → Type 0) (y : A) → ((x : X) (e : Described) → first x ≡ Ok e → Q e) → ((e : Described) → Q e → f e ≡ Ok y → P y)
      → (r ≡ Ok y → P y) → step o first f r ≡ Ok y → P y
  by_step P Q y one later other h = grind arith

  -- memory doesn't run out
  pub step-none : ((x : X) → WantsNone (first x)) → ((e : Described) → WantsNone (f e)) → WantsNone r → WantsNone (step o first f r)
  step-none one later other h = grind arith

  -- behind a descriptor the later reading decides
  pub step-later : (g : Described → Result A RuleFault) (s : Result A RuleFault) → is_some o ≡ true → ((e : Described) → GivesToo (f e) (g e))
      → GivesToo (step o first f r) (step o first g s)
  step-later g s is later x h = grind arith

  -- another reading gives too what is made of the first
  pub step-too : {B : Type 0} (second : X → Result Described RuleFault) (g : Described → Result A RuleFault) (s : Result A RuleFault) (k : A → Result B RuleFault)
      → ((x : X) → GivesToo (first x) (second x)) → ((e : Described) → GivesToo (f e >>= k) (g e >>= k)) → GivesToo (r >>= k) (s >>= k)
      → GivesToo (step o first f r >>= k) (step o second g s >>= k)
  step-too second g s k one later other y h = grind arith
