-- What is made on the ways to results is there.
use Rattle.hash_engine.proofs.Names.{GivesOf, Grows, HasMade, IsMade, IsMade-grows, IsNumber, IsNumber-grows, IsRemembered, IsRightMemo, KeepsRows, List, Makes, Makes-last, Makes-none, Makes-weaker, MakesFor, Memo, Square, StandsFor, Table}
use Rattle.hash_engine.proofs.Names.{later, middle, result-later, result-none, sought, square_in-grows, subst, suc, sym, ℕ, ◌<◌, ◌≡◌}
use Rattle.hash_engine.proofs.Standing.{StandsFor-itself, StandsFor-grows}
use Rattle.hash_engine.proofs.Finding.{HasWays-grows, HasWays-noted, made_of}

-- it is in a table that grew
pub HasMade-grows : (next : List ℕ → ℕ) (t u : Table) (memo : Memo) → Grows t u → u.notes ≡ t.notes → IsRightMemo next t memo →
    HasMade next t memo → HasMade next u memo
HasMade-grows next t u memo grows = HasWays-grows next t u memo (λ k m s way. Makes-weaker next k m s _ _ (λ q is. IsMade-grows t u q grows is) way) grows

-- for no generation it is the middle
pub MakesFor-none : (k n : ℕ) {next : List ℕ → ℕ} {generations r : ℕ} {t u : Table} {memo : Memo} → generations ≡ 0 → Grows t u → u.notes ≡ t.notes → IsRightMemo next t memo →
    IsNumber t.rows (suc (suc k)) n → GivesOf middle t n u r → MakesFor next k generations n t memo u memo
MakesFor-none k n {next} {generations} {r} {t} {u} {memo} none grows notes right numbered gives has =
    let s = sought t k n in
    let stands = StandsFor-itself t.rows (suc (suc k)) n numbered in
    let found = subst (StandsFor u.rows (suc k) r) (sym (result-none next k s)) (gives k s stands) in
    let made = Makes-none next k s (IsMade u.rows) (made_of (StandsFor-grows t u (suc (suc k)) n s grows stands)) (made_of found) in
    (HasMade-grows next t u memo grows notes right has, subst (λ g. Makes next k g s (IsMade u.rows)) (sym none) made)

-- and then it was remembered
pub MakesFor-noted : (next : List ℕ → ℕ) (n : ℕ) {k generations r : ℕ} {t u v : Table} {old mid new : Memo} → Grows t u → IsNumber t.rows (suc (suc k)) n →
    KeepsRows u v → IsRemembered k generations n r u mid v new → MakesFor next k generations n t old u mid → MakesFor next k generations n t old v new
MakesFor-noted next n {k} {generations} {r} {t} {u} {v} grows numbered rows is makes has =
    let all = makes has in
    let same = sym (square_in-grows t u (suc (suc k)) n grows numbered) in
    let made = subst (λ rows. Makes next k generations (sought t k n) (IsMade rows)) (sym rows.rows) all.1 in
    let way = subst (λ q. Makes next k generations q (IsMade v.rows)) same made in
    let still = λ (l m : ℕ) (q : Square) (was : Makes next l m q (IsMade u.rows)). subst (λ rows. Makes next l m q (IsMade rows)) (sym rows.rows) was in
    (HasWays-noted u v (IsNumber-grows t u (suc (suc k)) n grows numbered) rows is still way all.0, made)

-- for a square of 4 by 4 cells, which is put to the rule, and its result remembered
pub MakesFor-put : (n : ℕ) {next : List ℕ → ℕ} {generations r : ℕ} {t u v : Table} {old new : Memo} → 0 < generations → Grows t u → u.notes ≡ t.notes → IsRightMemo next t old →
    IsNumber t.rows 2 n → StandsFor u.rows 1 r (later next (sought t 0 n)) → KeepsRows u v → IsRemembered 0 generations n r u old v new →
    MakesFor next 0 generations n t old v new
MakesFor-put n {next} {generations} {r} {t} {u} {v} {old} some grows notes right numbered found rows is =
    let s = sought t 0 n in
    let square = subst (StandsFor u.rows 1 r) (sym (result-later next generations s some)) found in
    let whole = made_of (StandsFor-grows t u 2 n s grows (StandsFor-itself t.rows 2 n numbered)) in
    MakesFor-noted next n {mid = old} grows numbered rows is
    (λ has. (HasMade-grows next t u old grows notes right has, Makes-last next generations s (IsMade u.rows) whole (made_of square)))
