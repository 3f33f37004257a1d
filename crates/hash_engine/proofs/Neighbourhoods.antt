-- What is kept of a rule's answers for neighbourhoods of the states 0 and 1.
use Rattle.std.proofs.lemmas.Bool.{cases_lt}
use Rattle.std.proofs.lemmas.Grind.{same_number_lists}
use Rattle.std.proofs.lemmas.List.{get_or-replicate, get_or_past, length-replicate}
use Rattle.hash_engine.specs.Neighbourhoods.{states_of, AreAnswers}
use Rattle.hash_engine.specs.declared.asking.TheConstants.{UNKNOWN}
use Rattle.hash_engine.proofs.Names.{List, [], ap, arith, cases_eq, get_or, get_or-set_other, get_or-set_same, inl, inr, length, refl, replicate, set, subst, suc, sym, zero, ℕ, ◌*◌, ◌+◌, ◌<◌, ◌∙◌, ◌∷◌, ◌≡◌, ◌≢◌, ◌≤◌}
use Rattle.std.specs.Prelude.{◌/◌, ◌%◌}

-- the bits of a number are the states that it was made of
pub states_of-bits : (a b c d e f g h i number : ℕ) → a ≤ 1 → b ≤ 1 → c ≤ 1 → d ≤ 1 → e ≤ 1 → f ≤ 1 → g ≤ 1 → h ≤ 1 → i ≤ 1 →
    number ≡ (a + 2 * b + 4 * c + 8 * d) + 16 * (e + 2 * f + 4 * g + 8 * h) + 256 * i → states_of number ≡ a ∷ b ∷ c ∷ d ∷ e ∷ f ∷ g ∷ h ∷ i ∷ []
states_of-bits a b c d e f g h i number ha hb hc hd he hf hg hh hi is =
    let low : number ≡ (a + 2 * b + 4 * c + 8 * d) + 16 * (e + 2 * f + 4 * g + 8 * h + 16 * i) = omega arith in
    let high : number / 16 ≡ e + 2 * f + 4 * g + 8 * h + 16 * i = omega arith in
    let pa : number % 2 ≡ a = omega arith in
    let pb : number / 2 % 2 ≡ b = omega arith in
    let pc : number / 4 % 2 ≡ c = omega arith in
    let pd : number / 8 % 2 ≡ d = omega arith in
    let pe : number / 16 % 2 ≡ e = omega arith in
    let pf : number / 32 % 2 ≡ f = omega arith in
    let pg : number / 64 % 2 ≡ g = omega arith in
    let ph : number / 128 % 2 ≡ h = omega arith in
    let pi : number / 256 % 2 ≡ i = omega arith in
    λ j. pa j ∷ pb j ∷ pc j ∷ pd j ∷ pe j ∷ pf j ∷ pg j ∷ ph j ∷ pi j ∷ []

-- a list of nine numbers by its elements
at_nine : (l : List ℕ) (k : ℕ) → k < 9 → get_or (get_or l 0 0 ∷ get_or l 1 0 ∷ get_or l 2 0 ∷ get_or l 3 0 ∷ get_or l 4 0 ∷ get_or l 5 0 ∷ get_or l 6 0 ∷ get_or l 7 0 ∷ get_or l 8 0 ∷ []) k 0 ≡ get_or l k 0
at_nine l zero below = refl
at_nine l (suc zero) below = refl
at_nine l (suc (suc zero)) below = refl
at_nine l (suc (suc (suc zero))) below = refl
at_nine l (suc (suc (suc (suc zero)))) below = refl
at_nine l (suc (suc (suc (suc (suc zero))))) below = refl
at_nine l (suc (suc (suc (suc (suc (suc zero)))))) below = refl
at_nine l (suc (suc (suc (suc (suc (suc (suc zero))))))) below = refl
at_nine l (suc (suc (suc (suc (suc (suc (suc (suc zero)))))))) below = refl
at_nine l (suc (suc (suc (suc (suc (suc (suc (suc (suc k))))))))) below = absurd (omega arith)

pub by_nine : (l : List ℕ) → length l ≡ 9 → (get_or l 0 0 ∷ get_or l 1 0 ∷ get_or l 2 0 ∷ get_or l 3 0 ∷ get_or l 4 0 ∷ get_or l 5 0 ∷ get_or l 6 0 ∷ get_or l 7 0 ∷ get_or l 8 0 ∷ []) ≡ l
by_nine l nine = same_number_lists _ l (sym nine) (at_nine l)

-- nothing is kept yet
none_known : (count n : ℕ) → get_or (replicate count UNKNOWN) n UNKNOWN ≡ UNKNOWN
none_known count n =
    elim (cases_lt n count) [
      | inl there ↦ get_or-replicate count n UNKNOWN UNKNOWN there
      | inr past ↦ get_or_past (replicate count UNKNOWN) n UNKNOWN (omega (arith, length-replicate count UNKNOWN))
    ]

pub AreAnswers-none : (meaning : List ℕ → ℕ) (count : ℕ) → AreAnswers meaning (replicate count UNKNOWN)
AreAnswers-none meaning count = record { each = λ n known. absurd (known (none_known count n)) }

-- one more answer is kept
pub AreAnswers-more : (meaning : List ℕ → ℕ) (known : List ℕ) (number answer : ℕ) → number < length known → AreAnswers meaning known → answer ≡ meaning (states_of number) → AreAnswers meaning (set known number answer)
AreAnswers-more meaning known number answer there right is = record {
  each = λ n.
      elim (cases_eq n number) [
        | inl same ↦ λ kept.
            ap (λ m. get_or (set known number answer) m UNKNOWN) same
            ∙ get_or-set_same known number answer UNKNOWN there
            ∙ is
            ∙ ap (λ m. meaning (states_of m)) (sym same)
        | inr apart ↦
            let other = get_or-set_other known number n answer UNKNOWN apart in
            subst (λ value. value ≢ UNKNOWN → value ≡ meaning (states_of n)) (sym other) (right.each n)
      ];
}
