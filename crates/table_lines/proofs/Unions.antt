-- The set of a definition, a member at a time.
use Rattle.table_lines.proofs.Names.{Bool, Err, Head, List, None, NumberedLine, Ok, Result, RuleFault, Some, StateTooHigh, Variables, VariablesBelow, [], all_below, ap, append_assoc, are_below, arith, behind, each, false, filter, has}
use Rattle.table_lines.proofs.Names.{has-rising, if◌then◌else◌, list_all, list_any, member_set, nat_lt, nat_tests, or-false, range_with_len, refl, rising-agree, rising_none, set_of, states_or_fault, sym, true, union, unless_too_high}
use Rattle.table_lines.proofs.Names.{variables_after, ℕ, ◌&&◌, ◌++◌, ◌>>=◌, ◌||◌, ◌∙◌, ◌∷◌, ◌≡◌}
use Rattle.table_lines.specs.States.{rising}

-- all states of a union are below n, if those of each set are
has-below : (n : ℕ) (set : List ℕ) (s : ℕ) → all_below n set ≡ true → has set s ≡ true → nat_lt s n ≡ true
has-below n [] s h is = absurd cc
has-below n (x ∷ xs) s h is = grind (arith, nat_tests, has-below n xs s)

any-below : (n : ℕ) (sets : List (List ℕ)) (s : ℕ) → are_below n sets ≡ true → list_any (λ set. has set s) sets ≡ true → nat_lt s n ≡ true
any-below n [] s h is = absurd cc
any-below n (x ∷ xs) s h is = grind (arith, has-below, any-below n xs s)

kept : (p q : ℕ → Bool) (xs : List ℕ) → ((s : ℕ) → p s ≡ true → q s ≡ true) → list_all q (filter p xs) ≡ true
kept p q [] h = refl
kept p q (x ∷ xs) h = grind (arith, h x, kept p q xs h)

pub union-below : (n : ℕ) (sets : List (List ℕ)) → are_below n sets ≡ true → all_below n (union sets) ≡ true
unfolding rising
union-below n sets h = kept (λ s. list_any (λ set. has set s) sets) (λ s. nat_lt s n) (range_with_len 0 256) (λ s. any-below n sets s h)

-- so are those of all variables, with one more definition
pub variables_after-below : (head : Head) (variables more : Variables) (line : NumberedLine) → VariablesBelow head.states variables → variables_after head variables line ≡ Ok more → VariablesBelow head.states more
variables_after-below head variables more line below h name v is = grind (arith, union-below, below name v)

-- a list that is read, behind other values
pub behind-push : {A : Type 0} (front : List A) (x : A) (read : Result (List A) RuleFault) → behind (front ++ x ∷ []) read ≡ behind front (read >>= λ xs. Ok (x ∷ xs))
behind-push front x read = grind (arith, append_assoc)

-- two sets as one
union-two : (a b : List ℕ) (sets : List (List ℕ)) → union (rising (λ s. has a s || has b s) ∷ sets) ≡ union (a ∷ b ∷ sets)
union-two a b sets = rising-agree _ _ (λ s h. grind (arith, has-rising (λ t. has a t || has b t) s h))

-- the set of one set and of those that are read, unless a state was too high before or is
abbrev union_of : ℕ → ℕ → Bool → List ℕ → Result (List (List ℕ)) RuleFault → Result (List ℕ) RuleFault
union_of n number is_below set read = read >>= λ sets. if is_below && are_below n sets then Ok (union (set ∷ sets)) else Err (StateTooHigh number)

module _ (n number : ℕ) (set : List ℕ) (is_below : Bool) (member : Result (List ℕ) RuleFault) (left : Result (List (List ℕ)) RuleFault) where
  union_of-below : (more : List ℕ) → (member >>= λ states. Ok (unless_too_high n states)) ≡ Ok (Some more)
      → union_of n number is_below set (member >>= λ y. left >>= λ ys. Ok (y ∷ ys)) ≡ union_of n number is_below (rising (λ s. has set s || has more s)) left
  union_of-below more h = grind (arith, union-two set more)

  union_of-high : (member >>= λ states. Ok (unless_too_high n states)) ≡ Ok None
      → union_of n number is_below set (member >>= λ y. left >>= λ ys. Ok (y ∷ ys)) ≡ union_of n number false set left
  union_of-high h = grind arith

module _ (n : ℕ) (variables : Variables) (number : ℕ) (members : List (List ℕ)) where
  -- what is known of a set whose members were read up to some
  pub record SoFar (left : List (List ℕ)) (set : List ℕ) (is_below : Bool) : Type 0 where
    pub rising : rising (has set) ≡ set
    pub read : union_of n number is_below set (each (states_or_fault variables number) left) ≡ set_of n variables number members

  pub so_far-none : SoFar members [] true
  so_far-none = record { rising = rising_none _ (λ s _. refl); read = refl }

  -- a member was read whose states are below the count
  pub so_far-below : (member : List ℕ) (left : List (List ℕ)) (set more : List ℕ) (is_below : Bool) → SoFar (member ∷ left) set is_below
      → member_set n variables number member ≡ Ok (Some more) → SoFar left (rising (λ s. has set s || has more s)) is_below
  so_far-below member left set more is_below known is = record {
    rising = rising-agree _ _ (has-rising (λ s. has set s || has more s));
    read = sym (union_of-below n number set is_below (states_or_fault variables number member) _ more is) ∙ known.read;
  }

  -- a member was read of which a state is too high
  pub so_far-high : (member : List ℕ) (left : List (List ℕ)) (set : List ℕ) (is_below : Bool) → SoFar (member ∷ left) set is_below
      → member_set n variables number member ≡ Ok None → SoFar left set false
  so_far-high member left set is_below known is = grind (arith, union_of-high)

  -- all members were read
  pub so_far-all : (set : List ℕ) → SoFar [] set true → set_of n variables number members ≡ Ok set
  so_far-all set known = sym known.read ∙ ap Ok (rising-agree _ (has set) (λ s _. or-false (has set s)) ∙ known.rising)
