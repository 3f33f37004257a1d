-- The head that lines describe: how many states it has, and that its symmetry is one of its neighbourhood.
use Rattle.table_lines.proofs.Names.{Bool, Described, Descriptor, Head, IfSome, List, MayHaveStates, Neighborhood, NumberedLine, Ok, Some, Symmetry, [], arith, describe, descriptor_of, find, head_from, head_of, length, name_of_symmetry}
use Rattle.table_lines.proofs.Names.{nat_tests, states_in, symmetry_named, true, ℕ, ◌>>=◌, ◌∷◌, ◌≡◌, ◌≤◌}
use Rattle.table_lines.proofs.Steps.{by_step}

-- what was described of the states is within the limits
abbrev pub HasStates : Described → Type 0
HasStates d = IfSome d.states MayHaveStates

states_in-within : (value : List ℕ) (n : ℕ) → states_in value ≡ Some n → MayHaveStates n
states_in-within value n h = grind (arith, nat_tests)

described-within : (d : Described) (number : ℕ) (x : Descriptor) (value : List ℕ) (e : Described) → HasStates d → describe d number x value ≡ Ok e → HasStates e
described-within d number x value e within h = grind (arith, states_in-within)

find-passes : {A : Type 0} (p : A → Bool) (xs : List A) (x : A) → find p xs ≡ Some x → p x ≡ true
find-passes p [] x h = absurd cc
find-passes p (y ∷ ys) x h = grind (arith, find-passes p ys x)

-- the symmetry of a head is one of its neighbourhood's
abbrev HasSymmetry : Head → Type 0
HasSymmetry head = symmetry_named head.neighborhood (name_of_symmetry head.symmetry) ≡ Some head.symmetry

-- a symmetry that was found by a name is found by its own
symmetry_named-again : (m : Neighborhood) (name : List ℕ) (s : Symmetry) → symmetry_named m name ≡ Some s → symmetry_named m (name_of_symmetry s) ≡ Some s
symmetry_named-again m name s h = grind (arith, find-passes)

-- such a head, and no more lines are left than there were
pub record IsHead (count : ℕ) (found : Head × List NumberedLine) : Type 0 where
  pub states : MayHaveStates found.0.states
  pub symmetry : HasSymmetry found.0
  pub fewer : length found.1 ≤ count

-- so is a head that was described, whatever lines are left
head_of-is : (count : ℕ) (d : Described) (lines : List NumberedLine) (found : Head × List NumberedLine) → length lines ≤ count → HasStates d
    → (head_of d >>= λ head. Ok (head, lines)) ≡ Ok found → IsHead count found
head_of-is count d lines found few within h = record { states = grind arith; symmetry = grind (arith, symmetry_named-again); fewer = grind arith }

pub head_from-is : (count : ℕ) (d : Described) (lines : List NumberedLine) (found : Head × List NumberedLine) → length lines ≤ count → HasStates d
    → head_from d lines ≡ Ok found → IsHead count found
head_from-is count d [] found few within = head_of-is count d [] found few within
head_from-is count d (line ∷ lines) found few within =
    by_step (descriptor_of line.text) _ (λ e. head_from e lines) _ (IsHead count) HasStates found
    (λ x e. described-within d line.number x.0 x.1 e within)
    (λ e. head_from-is count e lines found (omega arith))
    (head_of-is count d (line ∷ lines) found few within)
