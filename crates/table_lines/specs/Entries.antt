-- The entries of a transition, read one after another.
use Rattle.std.specs.Prelude.{◌≡◌, ℕ, ◌⊎◌, List, ◌∷◌, ◌++◌, Result, Ok, Err}
use Rattle.rule_file.specs.declared.fault.RuleFault.{RuleFault}
use Rattle.rule_file.specs.declared.fault.RuleFault.TheVariants.{NoMemory}
use Rattle.basics.specs.Results.{◌>>=◌}
use Rattle.table_lines.specs.Variables.{each}

-- a list that is read, behind other values
abbrev pub behind : {A : Type 0} → List A → Result (List A) RuleFault → Result (List A) RuleFault
behind front read = read >>= λ xs. Ok (front ++ xs)

-- the first of some fields was taken and read
abbrev pub TakesOne : {A : Type 0} → Result A RuleFault → (List ℕ → Result A RuleFault)
    → List (List ℕ) → List (List ℕ) → Type 0
TakesOne result f fields left = (field : List ℕ) × (fields ≡ field ∷ left) × (result ≡ f field)

-- the first of some fields were taken and read, unless memory ran out
abbrev pub TakesSome : {X A : Type 0} → (X → List A) → Result X RuleFault
    → (List ℕ → Result A RuleFault) → List (List ℕ) → List (List ℕ) → Type 0
TakesSome view (Ok x) f fields left = each f fields ≡ behind (view x) (each f left)
TakesSome view (Err e) f fields left = (e ≡ NoMemory) ⊎ (each f fields ≡ Err e)
