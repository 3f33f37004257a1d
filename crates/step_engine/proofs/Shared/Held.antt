-- The squares of a table's rows as different squares.
use Rattle.step_engine.proofs.Names.{All, All-cons, All-nil, All-weaker, AreAmong, AreDifferent, AreDistinct, Bool, Contains, Contains-append_right, Contains-get_or, IsMade, List, Square, []}
use Rattle.step_engine.proofs.Names.{ap, arith, cases_eq, cond, filter, first_number, four, inl, inr, kid_at, length, one, refl, subst, suc, sym, zero, ℕ}
use Rattle.step_engine.proofs.Names.{◌+◌, ◌<◌, ◌∙◌, ◌∷◌, ◌≡◌, ◌≢◌, ◌≤◌}
use Rattle.std.proofs.lemmas.List.Kept.{AllPairs-cons}
use Rattle.square_table.specs.Squares.{IsNumber, square_in}
use Rattle.square_table.proofs.Shared.Numbers.{one_number, one_level}
use Rattle.hash_engine.specs.Asked.{picked}

first_of : Square → Square
first_of (one s) = one s
first_of (four nw ne sw se) = nw

-- squares of different levels differ
same_level : (rows : List (List ℕ)) (j k m n : ℕ) → IsNumber rows j m → IsNumber rows k n → square_in rows j m ≡ square_in rows k n → j ≡ k
unfolding IsNumber square_in first_of
same_level rows zero zero m n a b same = refl
same_level rows zero (suc k) m n a b same = absurd cc
same_level rows (suc j) zero m n a b same = absurd cc
same_level rows (suc j) (suc k) m n a b same = ap suc (same_level rows j k (kid_at rows m 0) (kid_at rows n 0) a.2 b.2 (ap first_of same))

-- the square is that of a row before n
abbrev pub IsBefore : List (List ℕ) → ℕ → Square → Type 0
IsBefore rows n s = (made : IsMade rows s) × (made.number < first_number + n)

none_before : (rows : List (List ℕ)) (s : Square) → IsBefore rows 0 s → ⊥
unfolding IsNumber
none_before rows s is = omega (arith, is.1, is.0.numbered.0)

-- squares of one number are equal
alike : (rows : List (List ℕ)) (s t : Square) (a : IsMade rows s) (b : IsMade rows t) → a.number ≡ b.number → s ≡ t
alike rows s t a b same = grind (arith, one_level rows (suc a.level) (suc b.level) b.number)

-- and those of different rows differ
pub apart : (rows : List (List ℕ)) → AreDistinct rows → (n : ℕ) (s : Square) (here : IsMade rows s) → here.number ≡ first_number + n → (t : Square) → IsBefore rows n t → s ≢ t
apart rows distinct n s here at t is same =
    let level = same_level rows (suc here.level) (suc is.0.level) here.number is.0.number here.numbered is.0.numbered (here.square ∙ same ∙ sym is.0.square) in
    grind (arith, one_number rows distinct (suc is.0.level) here.number is.0.number)

-- a test of squares and one of their numbers that agree
abbrev pub Agree : List (List ℕ) → (Square → Bool) → (ℕ → Bool) → Type 0
Agree rows p q = (k n : ℕ) → IsNumber rows (suc k) n → p (square_in rows (suc k) n) ≡ q n

-- the squares of the first n rows
pub record AreFirst (all : List Square) (rows : List (List ℕ)) (n : ℕ) : Type 0 where
  pub squares : List Square
  pub different : AreDifferent squares n all
  pub before : All (IsBefore rows n) squares
  pub passing : (p : Square → Bool) (q : ℕ → Bool) → Agree rows p q → length (filter p squares) ≡ length (picked (λ i. q (first_number + i)) n)
  pub each : (s : Square) → IsBefore rows n s → Contains squares s

longer : (b c : Bool) (s : Square) (i : ℕ) (ss : List Square) (is : List ℕ) → b ≡ c → length ss ≡ length is → length (cond b (s ∷ ss) ss) ≡ length (cond c (i ∷ is) is)
longer b c s i ss is same e = grind arith

first_rows : (all : List Square) (rows : List (List ℕ)) → AreDistinct rows → AreAmong all rows → (n : ℕ) → n ≤ length rows → AreFirst all rows n
unfolding picked
first_rows all rows distinct among zero low = record {
  squares = [];
  different = record { count = refl; different = λ i j d below there. absurd (omega (arith, there)); listed = All-nil (Contains all) };
  before = All-nil (IsBefore rows 0);
  passing = λ p q agree. refl;
  each = λ s is. absurd (none_before rows s is);
}
first_rows all rows distinct among (suc n) low =
    let rest = first_rows all rows distinct among n (omega (arith, low)) in
    let at = among.each n (omega (arith, low)) in
    let s = square_in rows (suc at.level) (first_number + n) in
    let here : IsMade rows s = record { level = at.level; number = first_number + n; numbered = at.numbered; square = refl } in
    record {
      squares = s ∷ rest.squares;
      different = record {
        count = ap suc rest.different.count;
        different = AllPairs-cons (λ p q. p ≢ q) s rest.squares (All-weaker (IsBefore rows n) (λ t. s ≢ t) (apart rows distinct n s here refl) rest.squares rest.before) rest.different.different;
        listed = All-cons (Contains all) s rest.squares at.listed rest.different.listed;
      };
      before = All-cons (IsBefore rows (suc n)) s rest.squares (here, omega arith) (All-weaker (IsBefore rows n) (IsBefore rows (suc n)) (λ t is. (is.0, omega (arith, is.1))) rest.squares rest.before);
      passing = λ p q agree. longer (p s) (q (first_number + n)) s n (filter p rest.squares) (picked (λ i. q (first_number + i)) n) (agree at.level (first_number + n) at.numbered) (rest.passing p q agree);
      each = λ t is. elim (cases_eq is.0.number (first_number + n)) [
        | inl last ↦ subst (Contains (s ∷ rest.squares)) (alike rows s t here is.0 (sym last)) (Contains-get_or (s ∷ rest.squares) 0 s (omega arith))
        | inr other ↦ Contains-append_right (s ∷ []) rest.squares t (rest.each t (is.0, omega (arith, is.1, other)))
      ];
    }

-- the squares of a table are different ones, and have all that is made
module _ (all : List Square) (rows : List (List ℕ)) (distinct : AreDistinct rows) (among : AreAmong all rows) where
  pub found : AreFirst all rows (length rows)
  found = first_rows all rows distinct among (length rows) (omega arith)

  pub made-there : (s : Square) → IsMade rows s → Contains found.squares s
  unfolding IsNumber
  made-there s is = found.each s (is, is.numbered.1)

  pub held_many : (many : ℕ) → many ≡ length rows → (squares : List Square) × AreDifferent squares many all
  held_many many is_many = (found.squares, subst (λ n. AreDifferent found.squares n all) (sym is_many) found.different)
