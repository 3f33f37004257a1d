-- Strips of squares, and the number of each square.
use Rattle.plane_core.proofs.Names.{All-append, All-cons, All-head, All-nil, All-tail, AreBefore, AreExtended, AreLeft, Bool, IsBefore, IsBehind, IsOnward, IsOutOfRow, IsReach, List, None, Some, Strip, [], add-one, ap, arith, cond-false}
use Rattle.plane_core.proofs.Names.{cond-true, drop, drop-cons, drop_all, ends_before, false, get_or, inl, inr, length, length-drop, nat_le, nat_tests, refl, slice_get, subst, sym, take, take_all, true, ℕ, ◌&&◌, ◌++◌, ◌+◌, ◌-◌, ◌<◌, ◌==◌}
use Rattle.plane_core.proofs.Names.{◌^◌, ◌∙◌, ◌∷◌, ◌≡◌, ◌≤◌, ◌⊎◌}
use Rattle.plane_core.specs.Strips.{number_at, AreAhead}

-- what the test says
pub before-true : (s : Strip) (x y : ℕ) → ends_before s x y ≡ true → IsBefore s x y
before-true s x y h = grind (arith, nat_tests)

pub before-from : (s : Strip) (x y : ℕ) → IsBefore s x y → ends_before s x y ≡ true
before-from s x y h = grind (arith, nat_tests)

pub behind-false : (s : Strip) (x y : ℕ) → ends_before s x y ≡ false → IsBehind s x y
behind-false s x y h = grind (arith, nat_tests)

pub behind-from : (s : Strip) (x y : ℕ) → IsBehind s x y → ends_before s x y ≡ false
behind-from s x y h = grind (arith, nat_tests)

pub before_or_behind : (s : Strip) (x y : ℕ) → IsBefore s x y ⊎ IsBehind s x y
before_or_behind s x y = by (ends_before s x y) refl
  where
    by : (b : Bool) → ends_before s x y ≡ b → IsBefore s x y ⊎ IsBehind s x y
    by true e = inl (before-true s x y e)
    by false e = inr (behind-false s x y e)

-- the number, by the first strip
pub number-none : (x y : ℕ) → number_at [] x y ≡ 0
unfolding number_at
number-none x y = refl

pub number-before : (s : Strip) (ss : List Strip) (x y : ℕ) → IsBefore s x y → number_at (s ∷ ss) x y ≡ number_at ss x y
unfolding number_at
number-before s ss x y h = cond-true _ _ _ (before-from s x y h)

pub number-held : (s : Strip) (ss : List Strip) (x y : ℕ) → s.y ≡ y → s.x ≤ x → x < s.end → number_at (s ∷ ss) x y ≡ s.number
unfolding number_at
number-held s ss x y row from to =
    let behind : IsBehind s x y = record { row = omega arith; column = λ e. to } in
    cond-false _ _ _ (behind-from s x y behind) ∙ cond-true (s.y == y && nat_le s.x x) s.number 0 (grind (arith, nat_tests))

pub number-short : (s : Strip) (ss : List Strip) (x y : ℕ) → IsBehind s x y → (s.y ≡ y → x < s.x) → number_at (s ∷ ss) x y ≡ 0
unfolding number_at
number-short s ss x y behind short =
    cond-false _ _ _ (behind-from s x y behind) ∙ cond-false (s.y == y && nat_le s.x x) s.number 0 (grind (arith, nat_tests))

pub ahead-none : (x y : ℕ) → AreAhead [] x y
unfolding AreAhead
ahead-none x y = tt

pub ahead-first : (s : Strip) (ss : List Strip) (x y : ℕ) → AreAhead (s ∷ ss) x y → IsBehind s x y
unfolding AreAhead
ahead-first s ss x y h = h

pub first-ahead : (s : Strip) (ss : List Strip) (x y : ℕ) → IsBehind s x y → AreAhead (s ∷ ss) x y
unfolding AreAhead
first-ahead s ss x y h = h

-- what is before a place is before those behind it
pub before-onward : (s : Strip) (x y i j : ℕ) → IsBefore s x y → IsOnward x y i j → IsBefore s i j
before-onward s x y i j b o = let r = b.row in let c = b.column in let r' = o.row in let c' = o.column in record { row = omega arith; column = λ e. omega arith }

-- strips that come before (x, y) have no number there or behind it
pub number-gone : (ss : List Strip) (x y i j : ℕ) → AreBefore ss x y → IsOnward x y i j → number_at ss i j ≡ 0
number-gone [] x y i j all o = number-none i j
number-gone (s ∷ ss) x y i j all o =
    number-before s ss i j (before-onward s x y i j (All-head (λ s. IsBefore s x y) s ss all) o)
    ∙ number-gone ss x y i j (All-tail (λ s. IsBefore s x y) s ss all) o

-- a first strip that goes on behind a place says its number
same_first : (o : Strip) (a b : List Strip) (i j : ℕ) → IsBehind o i j → number_at (o ∷ a) i j ≡ number_at (o ∷ b) i j
unfolding number_at
same_first o a b i j h = cond-false _ _ _ (behind-from o i j h) ∙ sym (cond-false _ _ _ (behind-from o i j h))

-- a strip behind others: what they have stays
pub number-append : (ss : List Strip) (s : Strip) (i j : ℕ) → (j ≡ s.y → s.x ≤ i → i < s.end → ⊥) → number_at (ss ++ s ∷ []) i j ≡ number_at ss i j
number-append [] s i j out =
    elim (before_or_behind s i j) [
      | inl b ↦ number-before s [] i j b
      | inr a ↦ number-short s [] i j a (λ e. let col : i < s.end = a.column e in grind (arith)) ∙ sym (number-none i j)
    ]
number-append (o ∷ ss) s i j out =
    elim (before_or_behind o i j) [
      | inl b ↦ number-before o (ss ++ s ∷ []) i j b ∙ number-append ss s i j out ∙ sym (number-before o ss i j b)
      | inr a ↦ same_first o (ss ++ s ∷ []) ss i j a
    ]

-- and its own number is there
pub number-last : (ss : List Strip) (s : Strip) (i : ℕ) → AreBefore ss s.x s.y → s.x ≤ i → i < s.end → number_at (ss ++ s ∷ []) i s.y ≡ s.number
number-last [] s i all from to = number-held s [] i s.y refl from to
number-last (o ∷ ss) s i all from to =
    let b : IsBefore o i s.y = before-onward o s.x s.y i s.y (All-head (λ o. IsBefore o s.x s.y) o ss all) (record { row = omega arith; column = λ e. from }) in
    number-before o (ss ++ s ∷ []) i s.y b ∙ number-last ss s i (All-tail (λ o. IsBefore o s.x s.y) o ss all) from to

pub all-onward : (ss : List Strip) (x y i j : ℕ) → AreBefore ss x y → IsOnward x y i j → AreBefore ss i j
all-onward ss x y i j all o = λ k d below. before-onward (get_or ss k d) x y i j (all k d below) o

-- a strip that is put behind others
pub extended : (old new : List Strip) (s : Strip) → new ≡ old ++ s ∷ [] → AreExtended old new s
extended old new s is =
    subst (λ (ss : List Strip). AreExtended old ss s) (sym is) (record {
      here = λ all i from to. number-last old s i all from to;
      others = λ all i j out. number-append old s i j out;
      before = λ all wide.
          All-append (λ o. IsBefore o s.end s.y) old (s ∷ [])
          (all-onward old s.x s.y s.end s.y all (record { row = omega arith; column = λ e. wide }))
          (All-cons (λ o. IsBefore o s.end s.y) s [] (record { row = omega arith; column = λ e. omega arith }) (All-nil (λ o. IsBefore o s.end s.y)));
    })

-- one that has no number
pub extended-none : (old : List Strip) (s : Strip) → s.number ≡ 0 → AreExtended old old s
extended-none old s none = record {
  here = λ all i from to. number-gone old s.x s.y i s.y all (record { row = omega arith; column = λ e. from }) ∙ sym none;
  others = λ all i j out. refl;
  before = λ all wide. all-onward old s.x s.y s.end s.y all (record { row = omega arith; column = λ e. wide });
}

-- the first strip, how far it reaches
pub reach-none : (x y : ℕ) → x < 2 ^ 32 → IsReach [] x y 0 (2 ^ 32)
reach-none x y few = record { more = few; far = omega arith; same = λ i from to. number-none i y }

pub reach-other : (s : Strip) (ss : List Strip) (x y : ℕ) → x < 2 ^ 32 → IsBehind s x y → (s.y ≡ y → ⊥) → IsReach (s ∷ ss) x y 0 (2 ^ 32)
reach-other s ss x y few behind other = record {
  more = few;
  far = omega arith;
  same = λ i from to. number-short s ss i y (record { row = behind.row; column = λ e. absurd (other e) }) (λ e. absurd (other e));
}

pub reach-gap : (s : Strip) (ss : List Strip) (x y until : ℕ) → s.end < 2 ^ 32 → IsBehind s x y → s.y ≡ y → x < s.x → until ≤ s.end → until ≤ s.x → x < until → IsReach (s ∷ ss) x y 0 until
reach-gap s ss x y until few behind row gap low high more = record {
  more = more;
  far = omega arith;
  same = λ i from to. number-short s ss i y (record { row = behind.row; column = λ e. omega arith }) (λ e. omega arith);
}

pub reach-here : (s : Strip) (ss : List Strip) (x y : ℕ) → s.end < 2 ^ 32 → IsBehind s x y → s.y ≡ y → s.x ≤ x → IsReach (s ∷ ss) x y s.number s.end
reach-here s ss x y few behind row from = record {
  more = behind.column row;
  far = omega arith;
  same = λ i low to. number-held s ss i y row (omega arith) to;
}

same_some : (a b : Strip) → Some a ≡ Some b → a ≡ b
same_some a b e = cc

-- the first strip isn't in a row
pub out-none : (y : ℕ) → IsOutOfRow [] y
out-none y = record { none = λ x i h. number-none i y; other = λ s e row. let no : ⊥ = grind (arith) in no }

pub out-other : (s : Strip) (ss : List Strip) (y : ℕ) → (s.y ≡ y → ⊥) → IsOutOfRow (s ∷ ss) y
out-other s ss y other = record {
  none = λ x i h. number-short s ss i y (record { row = (ahead-first s ss x y h).row; column = λ e. absurd (other e) }) (λ e. absurd (other e));
  other = λ r e row. other (ap (λ (a : Strip). a.y) (same_some s r (sym e)) ∙ row);
}

abbrev pub no_strip : Strip
no_strip = record { x = 0; end = 0; y = 0; number = 0 }

-- what is left from a place on
abbrev pub AreSameFrom : List Strip → List Strip → ℕ → ℕ → Type 0
AreSameFrom strips left x y = (i j : ℕ) → IsOnward x y i j → number_at left i j ≡ number_at strips i j

drop_first : (ss : List Strip) (i : ℕ) → i < length ss → drop i ss ≡ get_or ss i no_strip ∷ drop (i + 1) ss
drop_first ss i below = drop-cons ss i no_strip below ∙ ap (λ k. get_or ss i no_strip ∷ drop k ss) (sym (add-one i))

pub left-more : (ss : List Strip) (i x y : ℕ) → i < length ss → ends_before (get_or ss i no_strip) x y ≡ true → AreSameFrom ss (drop i ss) x y → AreSameFrom ss (drop (i + 1) ss) x y
left-more ss i x y below before same = λ a b o.
    sym (number-before (get_or ss i no_strip) (drop (i + 1) ss) a b (before-onward (get_or ss i no_strip) x y a b (before-true (get_or ss i no_strip) x y before) o))
    ∙ ap (λ (l : List Strip). number_at l a b) (sym (drop_first ss i below))
    ∙ same a b o

pub left-here : (ss : List Strip) (i x y : ℕ) → i < length ss → ends_before (get_or ss i no_strip) x y ≡ false → AreSameFrom ss (drop i ss) x y → AreLeft ss (take (length ss - i) (drop i ss)) x y
left-here ss i x y below behind same =
    let all : take (length ss - i) (drop i ss) ≡ drop i ss = take_all (length ss - i) (drop i ss) (omega (arith, length-drop i ss)) in
    subst (λ (l : List Strip). AreLeft ss l x y) (sym all) (record {
      same = same;
      ahead = subst (λ (l : List Strip). AreAhead l x y) (sym (drop_first ss i below)) (first-ahead (get_or ss i no_strip) (drop (i + 1) ss) x y (behind-false (get_or ss i no_strip) x y behind));
    })

pub left-none : (ss : List Strip) (i x y : ℕ) → length ss ≤ i → AreSameFrom ss (drop i ss) x y → AreLeft ss [] x y
left-none ss i x y all same =
    let empty : drop i ss ≡ [] = drop_all i ss all in
    record { same = λ a b o. ap (λ (l : List Strip). number_at l a b) (sym empty) ∙ same a b o; ahead = ahead-none x y }

-- a list by its first element, or the lack of one
pub first_none : (ss : List Strip) → None ≡ slice_get ss 0 → ss ≡ []
first_none [] e = refl
first_none (s ∷ ss) e = grind (arith)

pub first_some : (ss : List Strip) (s : Strip) → Some s ≡ slice_get ss 0 → (rest : List Strip) × (ss ≡ s ∷ rest)
first_some [] s e = grind (arith)
first_some (f ∷ ss) s e = (ss, ap (λ (a : Strip). a ∷ ss) (same_some f s (sym e)))

-- what is said of a list by its first element
pub by_first : (P : List Strip → Type 0) (ss : List Strip) (s : Strip) → Some s ≡ slice_get ss 0 → ((rest : List Strip) → ss ≡ s ∷ rest → P (s ∷ rest)) → P ss
by_first P ss s e here = let f = first_some ss s e in subst P (sym f.1) (here f.0 f.1)

ahead_of : (ss : List Strip) (s : Strip) (rest : List Strip) (x y : ℕ) → ss ≡ s ∷ rest → AreAhead ss x y → IsBehind s x y
ahead_of ss s rest x y is h = ahead-first s rest x y (subst (λ (l : List Strip). AreAhead l x y) is h)

module _ (ss : List Strip) (s : Strip) (x y : ℕ) (first : Some s ≡ slice_get ss 0) (ahead : AreAhead ss x y) where
  pub first-other : x < 2 ^ 32 → (s.y ≡ y → ⊥) → IsReach ss x y 0 (2 ^ 32)
  first-other few other = by_first (λ l. IsReach l x y 0 (2 ^ 32)) ss s first (λ rest is. reach-other s rest x y few (ahead_of ss s rest x y is ahead) other)

  pub first-gap : (until : ℕ) → s.end < 2 ^ 32 → s.y ≡ y → x < s.x → until ≤ s.end → until ≤ s.x → (x < s.end → x < until) → IsReach ss x y 0 until
  first-gap until few row gap low high more = by_first (λ l. IsReach l x y 0 until) ss s first (λ rest is.
      let behind = ahead_of ss s rest x y is ahead in reach-gap s rest x y until few behind row gap low high (more (behind.column row)))

  pub first-here : (until : ℕ) → until ≡ s.end → s.end < 2 ^ 32 → s.y ≡ y → s.x ≤ x → IsReach ss x y s.number until
  first-here until is few row from = subst (IsReach ss x y s.number) (sym is) (by_first (λ l. IsReach l x y s.number s.end) ss s first (λ rest is. reach-here s rest x y few (ahead_of ss s rest x y is ahead) row from))

  pub first-near : s.end < 2 ^ 32 → s.y ≡ y → x + 1 < 2 ^ 32
  first-near few row = let f = first_some ss s first in let below : x < s.end = (ahead_of ss s f.0 x y f.1 ahead).column row in omega arith

pub first-out : (ss : List Strip) (s : Strip) (y : ℕ) → Some s ≡ slice_get ss 0 → (s.y ≡ y → ⊥) → IsOutOfRow ss y
first-out ss s y first other = by_first (λ l. IsOutOfRow l y) ss s first (λ rest is. out-other s rest y other)
