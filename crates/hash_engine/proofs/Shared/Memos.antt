-- What is remembered stays right, and which squares were put to the rule.
use Rattle.std.proofs.Common.{◌≡◌, ℕ, suc, ◌+◌, ◌-◌, ◌<◌, ◌≤◌, ◌^◌, List, get_or, arith, zero, length, length-append, replicate, refl, ◌∙◌, ap, sym, subst}
use Rattle.square_table.specs.Squares.{Table, IsNumber, first_number, Grows}
use Rattle.square_table.proofs.Shared.Growth.{IsNumber-grows, square_in-grows, AreNumbers-grows, square_of-grows}
use Rattle.square_table.proofs.Shared.Numbers.{one_level}
use Rattle.hash_engine.specs.Memo.{IsResult, AreKnown, IsRightMemo, IsRemembered, HasNoFull}
use Rattle.hash_engine.specs.Blocks.{AreKnownBlocks, IsLaterOf}
use Rattle.hash_engine.proofs.SmallRows.{begins-grows}
use Rattle.hash_engine.specs.declared.memo.Memo.{Memo}
use Rattle.hash_engine.proofs.Standing.{StandsFor-grows, within}
use Rattle.std.specs.Prelude.{◌≢◌, true, false}
use Rattle.std.proofs.lemmas.Bool.{cases_eq, cases_lt}
use Rattle.std.proofs.lemmas.Bool.Decides.{nat_tests}
use Rattle.hash_engine.specs.Asked.{is_four, is_put, picked, places_put}
use Rattle.hash_engine.proofs.Shared.Picked.{picked-same, picked-none}

zeros : (n i : ℕ) → get_or (replicate n zero) i zero ≡ zero
zeros zero i = refl
zeros (suc n) zero = refl
zeros (suc n) (suc i) = zeros n i

-- where nothing is noted no result is known
pub no_full : (t : Table) (i : ℕ) → HasNoFull t → get_or t.notes i 0 ≡ 0
no_full t i none = ap (λ notes. get_or notes i 0) none ∙ zeros t.limit i

IsResult-grows : (next : List ℕ → ℕ) (t u : Table) (k generations n r : ℕ) → Grows t u → IsResult next t.rows k generations n r → IsResult next u.rows k generations n r
IsResult-grows next t u k generations n r grows is =
    let same = square_in-grows t u (suc (suc k)) n grows in
    grind (arith, same, IsNumber-grows t u (suc (suc k)) n grows, StandsFor-grows t u (suc k) r)

AreKnown-grows : (next : List ℕ → ℕ) (count : ℕ → ℕ) (t u : Table) (known : List ℕ) → Grows t u → AreKnown next count t.rows known → AreKnown next count u.rows known
AreKnown-grows next count t u known grows are = record { right = λ i some. let h = are.right i some in (h.0, IsResult-grows next t u h.0 (count h.0) _ _ grows h.1) }

IsLaterOf-grows : (next : List ℕ → ℕ) (t u : Table) (quadrants : List ℕ) (r : ℕ) → Grows t u → IsLaterOf next t.rows quadrants r → IsLaterOf next u.rows quadrants r
IsLaterOf-grows next t u quadrants r grows is =
    grind (arith, AreNumbers-grows t u 1 quadrants grows is.numbered, square_of-grows t u 1 quadrants grows is.numbered, StandsFor-grows t u 1 r)

pub IsRight-grows : (next : List ℕ → ℕ) (t u : Table) (memo : Memo) → Grows t u → u.notes ≡ t.notes → IsRightMemo next t memo → IsRightMemo next u memo
IsRight-grows next t u memo grows same right =
    let full = subst (AreKnown next (λ k. 2 ^ k) u.rows) (sym same) (AreKnown-grows next (λ k. 2 ^ k) t u t.notes grows right.full) in
    let part = AreKnown-grows next (λ k. get_or memo.counts k 0) t u memo.part.items grows right.part in
    let blocks : AreKnownBlocks next u.rows memo.blocks.list.items = record { each = λ i some. IsLaterOf-grows next t u _ _ grows (right.blocks.each i some) } in
    record { full = full; part = part; blocks = blocks; small = λ on. begins-grows t u grows (right.small on); answers = right.answers }

-- what stands at a square's place is its result
pub recalled : (next : List ℕ → ℕ) (count : ℕ → ℕ) (rows : List (List ℕ)) (known : List ℕ) (k generations n r : ℕ) → generations ≡ count k → first_number ≤ n → 0 < r →
    get_or known (n - first_number) 0 ≡ r → AreKnown next count rows known → IsNumber rows (suc (suc k)) n → IsResult next rows k generations n r
recalled next count rows known k generations n r asked high some is are number =
    let place : first_number + (n - first_number) ≡ n = omega (arith, high) in
    let h = are.right (n - first_number) (omega (arith, some, is)) in
    grind (arith, one_level rows (suc (suc h.0)) (suc (suc k)) n)

-- a square of 4 by 4 cells, and one of a higher level
pub is_four-two : (rows : List (List ℕ)) (n : ℕ) → IsNumber rows 2 n → is_four rows n ≡ true
unfolding IsNumber
is_four-two rows n is = grind (arith, nat_tests, is.2.0, is.2.1, is.2.2)

pub is_four-more : (rows : List (List ℕ)) (k n : ℕ) → IsNumber rows (suc (suc (suc k))) n → is_four rows n ≡ false
unfolding IsNumber
is_four-more rows k n is = grind (arith, nat_tests, is.2.2.0)

-- a square with a result is put to the rule where it has 4 by 4 cells
pub is_put-none : (rows : List (List ℕ)) (full : List ℕ) (i : ℕ) → get_or full i 0 ≡ 0 → is_put rows full i ≡ false
unfolding is_put
is_put-none rows full i none = grind (arith, nat_tests, none)

pub is_put-two : (rows : List (List ℕ)) (full : List ℕ) (i : ℕ) → IsNumber rows 2 (first_number + i) → 0 < get_or full i 0 → is_put rows full i ≡ true
unfolding is_put
is_put-two rows full i number some = let four = is_four-two rows (first_number + i) number in grind (arith, nat_tests, four, some)

pub is_put-more : (rows : List (List ℕ)) (full : List ℕ) (k i : ℕ) → IsNumber rows (suc (suc (suc k))) (first_number + i) → is_put rows full i ≡ false
unfolding is_put
is_put-more rows full k i number = let four = is_four-more rows k (first_number + i) number in cc

by_level : (t u : Table) (full : List ℕ) (k i : ℕ) → Grows t u → IsNumber t.rows (suc (suc k)) (first_number + i) → 0 < get_or full i 0 → is_put u.rows full i ≡ is_put t.rows full i
by_level t u full zero i grows number some =
    grind (arith, is_put-two, IsNumber-grows t u 2 (first_number + i))
by_level t u full (suc k) i grows number some =
    grind (arith, is_put-more, IsNumber-grows t u (suc (suc (suc k))) (first_number + i))

pub is_put-agrees : (rows : List (List ℕ)) (old new : List ℕ) (i : ℕ) → get_or new i 0 ≡ get_or old i 0 → is_put rows new i ≡ is_put rows old i
unfolding is_put
is_put-agrees rows old new i same = cc

-- they are as many in a table that grew
pub count-grows : (next : List ℕ → ℕ) (t u : Table) (memo : Memo) → Grows t u → u.notes ≡ t.notes → IsRightMemo next t memo → length (places_put u) ≡ length (places_put t)
unfolding places_put
count-grows next t u memo grows same right =
    ap (λ notes. length (picked (is_put u.rows notes) (length u.rows))) same
    ∙ ap length (picked-none (is_put u.rows t.notes) (length t.rows) (length u.rows) (omega (arith, ap length grows.rows, length-append t.rows grows.more))
    (λ i new there. grind (arith, right.full.right, within, is_put-none, cases_lt))
    ∙ picked-same (is_put u.rows t.notes) (is_put t.rows t.notes) (length t.rows) (λ i there. grind (arith, right.full.right, by_level, is_put-none, cases_lt)))

-- what is remembered elsewhere
pub others : (k generations n r : ℕ) (t : Table) (old : Memo) (u : Table) (new : Memo) (i : ℕ) → IsRemembered k generations n r t old u new → i ≢ n - first_number → get_or u.notes i 0 ≡ get_or t.notes i 0
others k generations n r t old u new i is other = grind (arith, cases_eq generations (2 ^ k))
