-- What is kept where the table grows, and where it is laid anew.
use Rattle.step_engine.proofs.Names.{Grows, IsNumber-grows, List, Table, World, ap, arith, first_number, length, min, subst, suc, sym, ℕ, ◌+◌, ◌∙◌, ◌≡◌, ◌≤◌}
use Rattle.std.proofs.Common.{Bool, IfSome, None, Option, false, length-append, replicate, true}
use Rattle.square_table.specs.Squares.{no_squares}
use Rattle.hash_engine.specs.Memo.{HasNoFull, IsRightMemo}
use Rattle.hash_engine.specs.Small.{BeginsWithSmall, KeepsRest}
use Rattle.hash_engine.specs.declared.memo.Memo.{Memo}
use Rattle.step_engine.specs.Evolved.{IsRoomSpent}
use Rattle.step_engine.specs.Kept.{AreSquares, IsPackedIn, IsRightCache, SpendsNew, begun_by, begun_in}
use Rattle.step_engine.specs.declared.cache.Cache.{Cache}
use Rattle.step_engine.specs.declared.cache.Packed.{Packed}
use Rattle.step_engine.proofs.Shared.Spent.{SpendsBeside}
use Rattle.step_engine.proofs.Small.{small_squares}

AreSquares-grows : {many : ℕ} {t u : Table} → Grows t u → AreSquares many t.rows → AreSquares many u.rows
AreSquares-grows {many} {t} {u} grows are = record {
  there = omega (arith, are.there, ap (λ (rows : List (List ℕ)). length rows) grows.rows, length-append t.rows grows.more);
  each = λ i below. let at = are.each i below in (at.0, IsNumber-grows t u (suc at.0) (first_number + i) grows at.1);
}

-- what is kept when the table has grown
pub IsRightCache-grows : {next : List ℕ → ℕ} {cache : Cache} {u : Table} {memo : Memo} {latest : Option Packed} → IsRightCache next cache → Grows cache.table u → IsRightMemo next u memo
    → IfSome latest (IsPackedIn u) → IsRightCache next (record cache { table = u; memo = memo; latest = latest })
IsRightCache-grows right grows memo latest = record {
  room = omega (arith, right.room, grows.limit);
  begins = AreSquares-grows grows right.begins;
  right = memo;
  latest = latest;
}

-- a full table with no square of its own before
pub SpendsNew-beside : {next : List ℕ → ℕ} {w : World} {n : ℕ} {cache : Cache} → IsRightCache next cache → SpendsBeside next w n cache.table → SpendsNew next w n cache
SpendsNew-beside {cache = cache} right spends new =
    spends cache.limit (subst (λ many. AreSquares many cache.table.rows) (sym new) right.begins) (omega (arith, right.room, new))

-- nothing is noted in a table with no square
no_notes : (t : Table) (limit : ℕ) → t ≡ no_squares limit → HasNoFull t
no_notes t limit is = ap (λ (v : Table). v.notes) is ∙ ap (λ n. replicate n 0) (sym (ap (λ (v : Table). v.limit) is))

begun-small : (is_small : Bool) (rows : List (List ℕ)) → BeginsWithSmall rows → AreSquares (begun_by is_small) rows
begun-small true rows begins = small_squares rows begins
begun-small false rows begins = record { there = omega arith; each = λ i below. absurd (omega (arith, below)) }

-- where the small ones are laid
pub IsRightCache-small : {next : List ℕ → ℕ} (cache : Cache) (t : Table) → min cache.limit 16777216 + begun_in cache ≤ t.limit → t ≡ no_squares t.limit → KeepsRest t cache.table
    → BeginsWithSmall cache.table.rows → cache.latest ≡ None → (HasNoFull cache.table → IsRightMemo next cache.table cache.memo) → IsRightCache next cache
IsRightCache-small cache t room empty keeps begins none memo = record {
  room = omega (arith, room, keeps.limit);
  begins = begun-small cache.is_small cache.table.rows begins;
  right = memo (keeps.notes ∙ no_notes t t.limit empty ∙ ap (λ n. replicate n 0) (sym keeps.limit));
  latest = subst (λ latest. IfSome latest (IsPackedIn cache.table)) (sym none) tt;
}

-- so many is another name of as many
pub IsRoomSpent-limit : {limit most n : ℕ} {next : List ℕ → ℕ} {w : World} → limit ≡ most → IsRoomSpent limit next w n → IsRoomSpent most next w n
IsRoomSpent-limit {n = n} {next = next} {w = w} same spent = subst (λ many. IsRoomSpent many next w n) same spent
