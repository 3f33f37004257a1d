-- Lists that differ at a place, and faults that are passed on.
use Rattle.tree_translation.proofs.Names.{Err, IfErr, IsErrAnd, List, Ok, Result, [], arith, cases_eq, inl, inr, length, refl, slice_index, subst, suc, sym, ℕ, ◌<◌, ◌∷◌, ◌≡◌, ◌≢◌}

-- where two lists have different elements
pub record DifferAt (xs ys : List ℕ) : Type 0 where
  pub place : ℕ
  pub inside : place < length xs
  pub differ : slice_index xs place ≢ slice_index ys place

-- different lists of one length have such a place
pub different-at : (xs ys : List ℕ) → length xs ≡ length ys → xs ≢ ys → DifferAt xs ys
different-at [] [] long other = absurd (other refl)
different-at (x ∷ xs) (y ∷ ys) long other = elim (cases_eq x y) [
  | inl same ↦
      let later = different-at xs ys (omega (arith, long)) (λ rest. other (λ i. same i ∷ rest i)) in
      record { place = suc later.place; inside = omega (arith, later.inside); differ = later.differ }
  | inr not ↦ record { place = 0; inside = omega arith; differ = not }
]
different-at xs ys long other = absurd (omega (arith, long))

-- what is said of a fault that is passed on
pub passed-on : {A B : Type 0} (result : Result A B) (fault : B) (Q : B → Type 0) → IsErrAnd result (λ f. f ≡ fault) → Q fault → IfErr result Q
passed-on (Ok x) fault Q is said = absurd is
passed-on (Err f) fault Q is said = subst Q (sym is) said
