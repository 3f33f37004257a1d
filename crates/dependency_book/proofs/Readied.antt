-- Whether what arrives at a mark is known, by the row of its rank.
use Rattle.dependency_book.proofs.Names.{ArrivalRow, Bool, List, Mark, NoneBefore, ap, arith, by_key, false, is_known, is_ready, is_start, mark_rank, nat_tests, refl, row_at, true, ℕ, ◌+◌, ◌≡◌}
use Rattle.dependency_book.proofs.Standing.{state_in, state_row}

pub started : (rows : List ArrivalRow) (m : Mark) → is_start m ≡ true → true ≡ is_ready rows m
started rows m hit = rw hit refl

pub ready_in : (rows : List ArrivalRow) (m : Mark) → is_start m ≡ false
    → is_ready rows m ≡ is_known (state_in (row_at (by_key mark_rank) (mark_rank m) rows))
ready_in rows m off = rw off (ap is_known (state_row mark_rank (mark_rank m) rows))

-- no place passes up to one that doesn't
pub none_more : {X : Type 0} (test : ℕ → X → Bool) (n : ℕ) → NoneBefore test n → ((x : X) → test n x ≡ false)
    → NoneBefore test (n + 1)
none_more test n none here = λ k x low. grind (arith, nat_tests, none k x, here x)
