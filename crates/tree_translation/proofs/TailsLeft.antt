-- What tails leave behind an input, and the marks of what was found of it.
use Rattle.tree_translation.proofs.Names.{All, All-push, AreMarked, Bool, AreTailsFound, Layer, List, Option, [], arith, asked_behind, common_steps, elements, false, first_some, get_or_default, is_in, length, lets, option_or, rest_at, set, true}
use Rattle.tree_translation.proofs.Names.{ℕ, ◌++◌, ◌<◌, ◌∷◌, ◌≡◌}

-- one more is asked
pub first_some-push : (f : ℕ → Option ℕ) (xs : List ℕ) (x : ℕ) → first_some f (xs ++ x ∷ []) ≡ option_or (first_some f xs) (f x)
first_some-push f [] x = grind arith
first_some-push f (y ∷ xs) x = grind (arith, first_some-push f xs x)

-- one that was asked already
pub first_some-again : (f : ℕ → Option ℕ) (xs : List ℕ) (x : ℕ) → is_in x xs ≡ true → option_or (first_some f xs) (f x) ≡ first_some f xs
first_some-again f [] x there = grind arith
first_some-again f (y ∷ xs) x there = grind (arith, first_some-again f xs x)

-- no mark is true where there is no number
pub none-marked : (marks : List Bool) → AreMarked marks [] → All (λ b. b ≡ false) marks
none-marked marks known k d less = grind (arith, known.marked k less, get_or_default marks k false d less)

-- a number that is found is marked
pub marked-push : (marks : List Bool) (found : List ℕ) → AreMarked marks found → (n : ℕ) → n < length marks → AreMarked (set marks n true) (found ++ n ∷ [])
marked-push marks found known n inside = record {
  marked = λ k less h. grind (arith, common_steps, known.marked);
  inside = grind (arith, elements, known.inside);
}

module _ (layer : Layer) (state : ℕ) (passed : List ℕ) (marks : List Bool) (found : List ℕ) (known : AreTailsFound layer state passed marks found) (number : ℕ) where
  -- a tail that doesn't let the input be this state
  pub found-passed : lets layer number state ≡ false → AreTailsFound layer state (passed ++ number ∷ []) marks found
  found-passed e = record {
    left = λ f. grind (arith, known.left f, first_some-push (asked_behind layer state f) passed number);
    rests = known.rests;
    marked = known.marked;
  }

  -- a tail of which the same is left as was found
  pub found-again : is_in (rest_at layer number) found ≡ true → AreTailsFound layer state (passed ++ number ∷ []) marks found
  found-again there = record {
    left = λ f. grind (arith, known.left f, first_some-again f found (rest_at layer number) there, first_some-push (asked_behind layer state f) passed number);
    rests = known.rests;
    marked = known.marked;
  }

  -- a tail of which something else is left
  pub found-more : number < length layer.tails.items → lets layer number state ≡ true → rest_at layer number < length marks
      → AreTailsFound layer state (passed ++ number ∷ []) (set marks (rest_at layer number) true) (found ++ rest_at layer number ∷ [])
  found-more there e inside = record {
    left = λ f. grind (arith, known.left f, first_some-push f found (rest_at layer number), first_some-push (asked_behind layer state f) passed number);
    rests = λ count fits. All-push (λ n. n < count) found (rest_at layer number) (known.rests count fits) (fits.rests number (record { set = 0; rest = 0 }) there);
    marked = marked-push marks found known.marked (rest_at layer number) inside;
  }
