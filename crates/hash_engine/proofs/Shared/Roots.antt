-- The square whose result a search begins with.
use Rattle.hash_engine.proofs.Names.{CanBeAsked, CanSeek, Contains, IsRightMemo, KeepsOnWay, List, Makes, Memo, Table, ap, ap₂, arith, cells_of, level_of, number_of, sought, square_in, subst, suc, sym, ℕ, ◌-◌, ◌≡◌, ◌≤◌}
use Rattle.square_table.specs.declared.square.Square as handles
use Rattle.hash_life_laws.proofs.Shared.Below as states
use Rattle.hash_engine.specs.Adding.{GrowsOnWay}
use Rattle.hash_engine.proofs.Standing.{below_some}

-- that of the root of a search can be sought
pub CanSeek-root : {next : List ℕ → ℕ} {c : ℕ} {t : Table} {memo : Memo} {root : handles.Square} {generations level n : ℕ} → CanBeAsked c t root →
    states.Keeps c next → level ≡ level_of root → n ≡ number_of root → IsRightMemo next t memo → CanSeek next c t memo (level - 2) generations n
CanSeek-root {next} {c} {t} {memo} {root} {generations} {level} {n} asked keeps is same right =
    let below = states.Puts-below c next keeps (below_some c (cells_of t root) asked.below) (level - 2) generations (cells_of t root) asked.below in
    let two : level_of root ≡ suc (suc (level - 2)) = omega (arith, asked.level.0, is) in
    grind (arith, asked, is, same, two, below, right)

-- the table grew on the way to the root's result
pub Grows-root : {next new : List ℕ → ℕ} {c d level generations n : ℕ} {t u : Table} {memo : Memo} {root : handles.Square} → level ≡ level_of root → n ≡ number_of root →
    2 ≤ level_of root → KeepsOnWay next new c d (Makes next (level - 2) generations (sought t (level - 2) n)) t u memo → GrowsOnWay next generations t root u
Grows-root {next} {new} {c} {d} {level} {generations} {n} {t} {u} {memo} {root} is same two keeps =
    let whole : suc (suc (level - 2)) ≡ level_of root = omega (arith, two, is) in
    let cells : sought t (level - 2) n ≡ cells_of t root = ap₂ (square_in t.rows) whole same in
    let less : level - 2 ≡ level_of root - 2 = ap (λ l. l - 2) is in
    record {
      grows = keeps.grows;
      among = λ all way are.
          let here = subst (λ l. Makes next l generations (cells_of t root) (Contains all)) (sym less) way in
          keeps.adds all (subst (λ s. Makes next (level - 2) generations s (Contains all)) (sym cells) here) are;
    }
