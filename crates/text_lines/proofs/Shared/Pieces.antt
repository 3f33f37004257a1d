-- The pieces of a line, which bytes that pass a test part: the first, and those behind it.
use Rattle.text_lines.proofs.Names.{AllByRecursion, Bool, List, None, Some, [], ap, append-nil, arith, drop, fails_before_first, false, length, length-append, nat_lt, nat_tests, position, position_or_len, rules, slice_split}
use Rattle.text_lines.proofs.Names.{slice_split_first, slice_split_none, take, tests, true, ℕ, ◌++◌, ◌+◌, ◌<◌, ◌∙◌, ◌∷◌, ◌≡◌, ◌≤◌}
use Rattle.basics.proofs.Shared.Tests.{some_place, no_place}

pub split-some : (p : ℕ → Bool) (line : List ℕ) (n : ℕ) → position p line ≡ Some n → slice_split p line ≡ take n line ∷ slice_split p (drop (n + 1) line)
split-some p line n h =
    let k = position_or_len p line in
    let at = some_place (nat_lt k (length line)) k n h in
    let inside : k < length line = search (rules, tests) in
    slice_split_first p line 0 inside ∙ ap (λ m. take m line ∷ slice_split p (drop (m + 1) line)) at.1

pub split-none : (p : ℕ → Bool) (line : List ℕ) → position p line ≡ None → slice_split p line ≡ line ∷ []
split-none p line h =
    let past : length line ≤ position_or_len p line = search (rules, tests, no_place (nat_lt (position_or_len p line) (length line)) (position_or_len p line) h) in
    slice_split_none p line (λ i d h. fails_before_first p line i d (omega arith))

-- bytes before the first that passes, if one does
past : (p : ℕ → Bool) (front rest : List ℕ) → AllByRecursion (λ c. p c ≡ false) front → position_or_len p (front ++ rest) ≡ length front + position_or_len p rest
past p [] rest h = omega arith
past p (c ∷ cs) rest h = rw h.0 (omega (arith, past p cs rest h.1))

pub position-at : (p : ℕ → Bool) (front : List ℕ) (b : ℕ) (rest : List ℕ) → AllByRecursion (λ c. p c ≡ false) front → p b ≡ true → position p (front ++ b ∷ rest) ≡ Some (length front)
position-at p front b rest h is = grind (arith, nat_tests, past p front (b ∷ rest) h, length-append front (b ∷ rest))

pub all-past : (p : ℕ → Bool) (line : List ℕ) → AllByRecursion (λ c. p c ≡ false) line → position_or_len p line ≡ length line
all-past p line h = grind (arith, append-nil line, past p line [] h)

pub position-none : (p : ℕ → Bool) (line : List ℕ) → AllByRecursion (λ c. p c ≡ false) line → position p line ≡ None
position-none p line h = grind (arith, nat_tests, all-past p line h)
