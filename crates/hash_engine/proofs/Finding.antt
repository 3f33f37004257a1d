-- What a search puts to the rule, keeps and finds, step by step.
use Rattle.hash_engine.proofs.Names.{Adds, AddsOf, All, All-cons, All-nil, AreAmong, AreKnown, AreWays, Asks, Contains, FindsForAll, GivesOf, Grows, Grows-then, HasPut, HasWays, IsCounted, IsFound, IsMade, IsNumber}
use Rattle.hash_engine.proofs.Names.{IsNumber-grows, IsPut, IsRemembered, IsResult, IsRightMemo, IsSameRule, KeepsOnWay, KeepsRows, List, Makes, Makes-result, Memo, Puts, Puts-itself, Puts-last, Puts-none, Puts-weaker, PutsOnly, Square}
use Rattle.hash_engine.proofs.Names.{StandForAll, StandsFor, StaysRight, Table, [], ap, append-nil, arith, cases_eq, first_number, get_or, get_or-map, inl, inr, is_put, later, length, length-map, map, middle}
use Rattle.hash_engine.proofs.Names.{Grows-same, one, one_level, picked, refl, result, result-later, result-none, sought, square_in, square_in-grows, subst, suc, sym, ℕ, ◌*◌, ◌+◌, ◌-◌, ◌<◌, ◌^◌, ◌∙◌, ◌∷◌, ◌≡◌, ◌≢◌, ◌≤◌}
use Rattle.hash_engine.specs.Asked.{places_put}
use Rattle.hash_engine.proofs.Standing.{above, within, StandsFor-itself, StandsFor-grows}
use Rattle.hash_engine.proofs.Shared.Picked.{picked-same, picked-more}
use Rattle.hash_engine.proofs.Shared.Memos.{IsRight-grows, is_put-none, is_put-two, is_put-more, is_put-agrees, count-grows, others}

-- in a table that grew the same squares were put
pub IsPut-grows : (t u : Table) (full : List ℕ) (s : Square) → Grows t u → IsPut t.rows full s → IsPut u.rows full s
IsPut-grows t u full s grows is = record {
  place = is.place;
  numbered = IsNumber-grows t u 2 (first_number + is.place) grows is.numbered;
  known = is.known;
  square = square_in-grows t u 2 (first_number + is.place) grows is.numbered ∙ is.square;
}

-- and with the same notes, too
pub IsPut-kept : (t u : Table) (s : Square) → Grows t u → u.notes ≡ t.notes → IsPut t.rows t.notes s → IsPut u.rows u.notes s
IsPut-kept t u s grows same is = subst (λ notes. IsPut u.rows notes s) (sym same) (IsPut-grows t u t.notes s grows is)

-- a number of a square of level k + 2 with a result was one in the table before
pub was_number : (next : List ℕ → ℕ) (count : ℕ → ℕ) (t u : Table) (known : List ℕ) (i k : ℕ) → Grows t u →
    AreKnown next count t.rows known → 0 < get_or known i 0 → IsNumber u.rows (suc (suc k)) (first_number + i) →
    IsNumber t.rows (suc (suc k)) (first_number + i)
was_number next count t u known i k grows are some number =
    let h = are.right i some in
    grind (arith, IsNumber-grows t u (suc (suc h.0)), one_level u.rows (suc (suc h.0)) (suc (suc k)))

pub IsPut-before : (next : List ℕ → ℕ) (t u : Table) (memo : Memo) (s : Square) → Grows t u → u.notes ≡ t.notes → IsRightMemo next t memo →
    IsPut u.rows u.notes s → IsPut t.rows t.notes s
IsPut-before next t u memo s grows same right is =
    grind (arith, same, was_number next (λ k. 2 ^ k) t u t.notes is.place 0, square_in-grows)

-- the ways to what is known
AreWays-grows : {Way More : ℕ → ℕ → Square → Type 0} (next : List ℕ → ℕ) (count : ℕ → ℕ) (t u : Table) (known : List ℕ) → ((k m : ℕ) (s : Square) → Way k m s → More k m s) →
    Grows t u → AreKnown next count t.rows known → AreWays Way count t.rows known → AreWays More count u.rows known
AreWays-grows {Way} {More} next count t u known so grows right are = record {
  each = λ i k some number.
      let was = was_number next count t u known i k grows right some number in
      subst (More k (count k)) (sym (square_in-grows t u (suc (suc k)) (first_number + i) grows was)) (so k (count k) _ (are.each i k some was));
}

pub HasWays-grows : {Way More : ℕ → ℕ → Square → Type 0} (next : List ℕ → ℕ) (t u : Table) (memo : Memo) → ((k m : ℕ) (s : Square) → Way k m s → More k m s) →
    Grows t u → u.notes ≡ t.notes → IsRightMemo next t memo → HasWays Way t memo → HasWays More u memo
HasWays-grows {Way} {More} next t u memo so grows same right has = record {
  whole = has.whole;
  full = subst (AreWays More (λ k. 2 ^ k) u.rows) (sym same) (AreWays-grows next (λ k. 2 ^ k) t u t.notes so grows right.full has.full);
  part = AreWays-grows next (λ k. get_or memo.counts k 0) t u memo.part.items so grows right.part has.part;
}

pub HasPut-grows : (next : List ℕ → ℕ) (t u : Table) (memo : Memo) → Grows t u → u.notes ≡ t.notes → IsRightMemo next t memo →
    HasPut next t memo → HasPut next u memo
HasPut-grows next t u memo grows same =
    HasWays-grows next t u memo (λ k m s way few. Puts-weaker next k m s _ _ (λ q is. IsPut-kept t u q grows same is) (way few)) grows same

-- the way to what is recalled
pub recalled_way : (Way : ℕ → ℕ → Square → Type 0) (count : ℕ → ℕ) (rows : List (List ℕ)) (known : List ℕ) (k generations n r : ℕ) →
    generations ≡ count k → first_number ≤ n → 0 < r → get_or known (n - first_number) 0 ≡ r →
    AreWays Way count rows known → IsNumber rows (suc (suc k)) n → Way k generations (square_in rows (suc (suc k)) n)
recalled_way Way count rows known k generations n r asked high some is are number =
    let place : first_number + (n - first_number) ≡ n = omega (arith, high) in
    let there = subst (IsNumber rows (suc (suc k))) (sym place) number in
    subst (λ m. Way k m (square_in rows (suc (suc k)) n)) (sym asked)
    (subst (λ m. Way k (count k) (square_in rows (suc (suc k)) m)) place (are.each (n - first_number) k (subst (λ v. 0 < v) (sym is) some) there))

-- the table alone grew
pub Asks-grown : {next : List ℕ → ℕ} {Way : (Square → Type 0) → Type 0} {t u : Table} {memo : Memo} {asks : ℕ} →
    Grows t u → u.notes ≡ t.notes → IsRightMemo next t memo → HasPut next t memo → Asks next Way t asks u memo asks
Asks-grown {next} {Way} {t} {u} {memo} {asks} grows same right has = record {
  four = omega (arith, count-grows next t u memo grows same right);
  has = HasPut-grows next t u memo grows same right has;
  kept = λ s is. IsPut-kept t u s grows same is;
  among = λ all way only s is. only s (IsPut-before next t u memo s grows same right is);
}

-- it went on with what is on the way
pub Asks-then : {next : List ℕ → ℕ} {Way Rest : (Square → Type 0) → Type 0} {t u v : Table} {mid new : Memo} {a b c : ℕ} →
    Asks next Way t a u mid b → ((all : List Square) → Way (Contains all) → Rest (Contains all)) →
    Asks next Rest u b v new c → Asks next Way t a v new c
Asks-then first rest then = grind arith

pub Asks-next : {next : List ℕ → ℕ} {Way : (Square → Type 0) → Type 0} {t u v : Table} {mid new : Memo} {a b c : ℕ} →
    Asks next Way t a u mid b → Asks next Way u b v new c → Asks next Way t a v new c
Asks-next first then = Asks-then first (λ all way. way) then

-- one result more is remembered: each is the same, or the one
module _ {Way More : ℕ → ℕ → Square → Type 0} (u v : Table) {k generations n r : ℕ} {old new : Memo} (number : IsNumber u.rows (suc (suc k)) n)
    (same : KeepsRows u v) (is : IsRemembered k generations n r u old v new) (so : (l m : ℕ) (s : Square) → Way l m s → More l m s) (way : More k generations (sought u k n)) where
  AreWays-noted : (count : ℕ → ℕ) (known more : List ℕ) →
      (generations ≡ count k → (j : ℕ) → j ≢ n - first_number → get_or more j 0 ≡ get_or known j 0) →
      (generations ≢ count k → more ≡ known) → AreWays Way count u.rows known → AreWays More count u.rows more
  AreWays-noted count known more noted same are = record {
    each = λ i l there at.
        let place : first_number + (n - first_number) ≡ n = omega (arith, above u.rows (suc k) n number) in
        let level = one_level u.rows (suc (suc k)) (suc (suc l)) in
        grind (arith, cases_eq generations (count k), cases_eq i (n - first_number), are.each i l, place, level, so l (count l), way);
  }

  pub HasWays-noted : HasWays Way u old → HasWays More v new
  HasWays-noted has = record {
    whole = is.lean ∙ has.whole;
    full = subst (λ rows. AreWays More (λ l. 2 ^ l) rows v.notes) (sym same.rows) (AreWays-noted (λ l. 2 ^ l) _ _ (λ by. (is.full by).others) is.other has.full);
    part =
        subst (λ rows. AreWays More (λ l. get_or new.counts l 0) rows new.part.items) (sym same.rows)
        (subst (λ (cs : List ℕ). AreWays More (λ l. get_or cs l 0) u.rows new.part.items) (sym is.counts)
        (AreWays-noted (λ l. get_or old.counts l 0) _ _ is.part is.rest has.part));
  }

module _ (u v : Table) {k generations n r : ℕ} {old new : Memo} (number : IsNumber u.rows (suc (suc k)) n)
    (same : KeepsRows u v) (is : IsRemembered k generations n r u old v new) (some : 0 < r) where
  place : first_number + (n - first_number) ≡ n
  place = omega (arith, above u.rows (suc k) n number)

  pub put_still : (s : Square) → IsPut u.rows u.notes s → IsPut v.rows v.notes s
  put_still s put =
      let known : 0 < get_or v.notes put.place 0 =
      grind (arith, put.known, cases_eq put.place (n - first_number), cases_eq generations (2 ^ k), others) in
      subst (λ rows. IsPut rows v.notes s) (sym same.rows) (record { place = put.place; numbered = put.numbered; known = known; square = put.square })

  -- by its place it is the square, or was put before
  put_before : (all : List Square) → (IsNumber u.rows 2 n → Contains all (square_in u.rows 2 n)) → PutsOnly all u → (s : Square) → IsPut u.rows v.notes s → Contains all s
  put_before all there only s put = elim (cases_eq put.place (n - first_number)) [
    | inl here ↦ grind (arith, here, place, there, put)
    | inr apart ↦
        let was = others k generations n r u old v new put.place is apart in
        only s (record { place = put.place; numbered = put.numbered; known = omega (arith, was, put.known); square = put.square })
  ]

  module _ (next : List ℕ → ℕ) (way : Puts next k generations (sought u k n) (IsPut v.rows v.notes)) where
    pub Asks-noted : {Way : (Square → Type 0) → Type 0} {a b : ℕ} →
        b + 4 * length (places_put u) ≡ a + 4 * length (places_put v) → HasPut next u old →
        ((all : List Square) → Way (Contains all) → IsNumber u.rows 2 n → Contains all (square_in u.rows 2 n)) →
        Asks next Way u a v new b
    Asks-noted {Way} {a} {b} four has listed = record {
      four = four;
      has = HasWays-noted u v number same is (λ l m s was few. Puts-weaker next l m s _ _ put_still (was few)) (λ few. way) has;
      kept = put_still;
      among = λ all way only s put. put_before all (listed all way) only s (subst (λ rows. IsPut rows v.notes s) same.rows put);
    }

-- the places of what is put, by the squares before
places_noted : {u v : Table} → KeepsRows u v → places_put v ≡ picked (is_put u.rows v.notes) (length u.rows)
unfolding places_put
places_noted {u} {v} same = ap (λ rows. picked (is_put rows v.notes) (length rows)) same.rows

-- a square of 4 by 4 cells is put to the rule
module _ {t u v : Table} {generations n r : ℕ} {old new : Memo} (one : 0 < generations) (few : generations ≤ 2 ^ 0) (grows : Grows t u)
    (was : IsNumber t.rows 2 n) (rows : KeepsRows u v) (is : IsRemembered 0 generations n r u old v new) (some : 0 < r) where
  same : square_in u.rows 2 n ≡ sought t 0 n
  same = square_in-grows t u 2 n grows was

  at : n ≡ first_number + (n - first_number)
  at = let number = IsNumber-grows t u 2 n grows was in omega (arith, above u.rows 1 n number)

  numbered : IsNumber u.rows 2 (first_number + (n - first_number))
  numbered = subst (IsNumber u.rows 2) at (IsNumber-grows t u 2 n grows was)

  known : 0 < get_or v.notes (n - first_number) 0
  known = let noted = (is.full (omega (arith, one, few))).here in omega (arith, noted, some)

  pub IsPut-noted : IsPut v.rows v.notes (sought t 0 n)
  IsPut-noted =
      subst (λ (rows : List (List ℕ)). IsPut rows v.notes (sought t 0 n)) (sym rows.rows)
      (record { place = n - first_number; numbered = numbered; known = known; square = ap (square_in u.rows 2) (sym at) ∙ same })

  pub Asks-put : {next : List ℕ → ℕ} {a b : ℕ} → u.notes ≡ t.notes → IsRightMemo next t old → HasPut next t old →
      get_or t.notes (n - first_number) 0 ≡ 0 → b ≡ a + 4 → Asks next (Puts next 0 generations (sought t 0 n)) t a v new b
  unfolding places_put
  Asks-put {next} {a} {b} notes right has anew four =
      let more = picked-more (is_put u.rows u.notes) (is_put u.rows v.notes) (n - first_number) (length u.rows)
      (omega (arith, within u.rows 1 _ numbered)) (is_put-none u.rows u.notes (n - first_number) (ap (λ known. get_or known (n - first_number) 0) notes ∙ anew))
      (is_put-two u.rows v.notes (n - first_number) numbered known)
      (λ i apart. sym (is_put-agrees u.rows u.notes v.notes i (others 0 generations n r u old v new i is apart))) in
      let way = Puts-last next generations (sought u 0 n) (IsPut v.rows v.notes) (subst (IsPut v.rows v.notes) (sym same) IsPut-noted) in
      Asks-next (Asks-grown grows notes right has)
      (Asks-noted u v (IsNumber-grows t u 2 n grows was) rows is some next way (omega (arith, four, more, ap length (places_noted rows))) (HasPut-grows next t u old grows notes right has)
      (λ all on_way two. subst (Contains all) (sym same) (Puts-itself next generations (sought t 0 n) (Contains all) one on_way)))

pub same_rule : (next : List ℕ → ℕ) (c : ℕ) → IsSameRule next next c c
same_rule next c = record { meaning = refl; states = refl }

-- where nothing is done
pub Keeps-itself : {next : List ℕ → ℕ} {c : ℕ} {Way : (Square → Type 0) → Type 0} {t : Table} {memo : Memo} → IsRightMemo next t memo →
    KeepsOnWay next next c c Way t t memo
Keeps-itself {next} {c} {Way} {t} right = record { rule = record { meaning = refl; states = refl }; grows = Grows-same t; right = right; adds = λ all way are. are }

-- the table has squares on the way more, or none
pub Keeps-adds : {next new : List ℕ → ℕ} {c d : ℕ} {Way : (Square → Type 0) → Type 0} {made : List Square} {t u : Table} {memo : Memo} →
    IsSameRule next new c d → IsRightMemo next t memo → Adds made t u → ((all : List Square) → Way (Contains all) → All (Contains all) made) →
    KeepsOnWay next new c d Way t u memo
Keeps-adds {next} {new} {c} {d} {Way} {made} {t} {u} {memo} rule right adds so = record {
  rule = rule;
  grows = adds.grows;
  right = IsRight-grows next t u memo adds.grows adds.notes right;
  adds = λ all way. adds.among all (so all way);
}

-- and then they are more
pub Keeps-grown : {next new : List ℕ → ℕ} {c d : ℕ} {Way : (Square → Type 0) → Type 0} {made : List Square} {t u v : Table} {memo : Memo} →
    KeepsOnWay next new c d Way t u memo → Adds made u v → ((all : List Square) → Way (Contains all) → All (Contains all) made) → KeepsOnWay next new c d Way t v memo
Keeps-grown {next} {new} {c} {d} {Way} {made} {t} {u} {v} {memo} keeps adds so = record {
  rule = keeps.rule;
  grows = Grows-then t u v keeps.grows adds.grows;
  right = IsRight-grows next u v memo adds.grows adds.notes keeps.right;
  adds = λ all way are. adds.among all (so all way) (keeps.adds all way are);
}

-- and then it went on with what is on the way
pub Keeps-then : {next mid new : List ℕ → ℕ} {c d e : ℕ} {Way Rest : (Square → Type 0) → Type 0}
    {t u v : Table} {memo more : Memo} → KeepsOnWay next mid c d Way t u memo → ((all : List Square) → Way (Contains all) → Rest (Contains all)) →
    KeepsOnWay mid new d e Rest u v more → KeepsOnWay next new c e Way t v more
Keeps-then {next} {mid} {new} {c} {d} {e} {Way} {Rest} {t} {u} {v} {memo} {more} keeps rest then = grind (arith, Grows-then)

-- a square that a number stands for is in the table
pub made_of : {rows : List (List ℕ)} {k n : ℕ} {s : Square} → StandsFor rows (suc k) n s → IsMade rows s
made_of {rows} {k} {n} {s} is = record { level = k; number = n; numbered = is.numbered; square = is.square }

-- the result is on the way
pub one_result : (next : List ℕ → ℕ) (k generations : ℕ) (s : Square) {r : Square} → r ≡ result next k generations s →
    (all : List Square) → Makes next k generations s (Contains all) → All (Contains all) (r ∷ [])
one_result next k generations s {r} is all way =
    All-cons (Contains all) r [] (subst (Contains all) (sym is) (Makes-result next k generations s (Contains all) way)) (All-nil (Contains all))

-- for no generation it is the middle
pub Keeps-middle : (k n : ℕ) {next : List ℕ → ℕ} {c ahead : ℕ} {t u : Table} {memo : Memo} → ahead ≡ 0 → IsRightMemo next t memo →
    IsNumber t.rows (suc (suc k)) n → AddsOf (λ s. middle s ∷ []) t n u → KeepsOnWay next next c c (Makes next k ahead (sought t k n)) t u memo
Keeps-middle k n {next} {c} {ahead} {t} none right numbered adds =
    let s = sought t k n in
    let is : middle s ≡ result next k ahead s = grind (arith, none, result-none next k s) in
    Keeps-adds (same_rule next c) right (adds k s (StandsFor-itself t.rows (suc (suc k)) n numbered)) (one_result next k ahead s is)

pub IsFound-none : {next : List ℕ → ℕ} {Counted : Type 0} {k generations n r : ℕ} {t u : Table} → generations ≡ 0 → Grows t u →
    IsNumber t.rows (suc (suc k)) n → GivesOf middle t n u r → IsFound next Counted k generations (sought t k n) u r
IsFound-none {next} {Counted} {k} {generations} {n} {r} {t} {u} none grows numbered gives =
    let s = sought t k n in
    let stands = StandsFor-itself t.rows (suc (suc k)) n numbered in
    let found = subst (StandsFor u.rows (suc k) r) (sym (result-none next k s)) (gives k s stands) in
    grind (arith, none, found, Puts-none next k s (IsPut u.rows u.notes))

-- for a square of 4 by 4 cells it is put to the rule
pub IsFound-put : (t : Table) (n : ℕ) {next : List ℕ → ℕ} {Counted : Type 0} {generations r : ℕ} {u : Table} → 0 < generations →
    StandsFor u.rows 1 r (later next (sought t 0 n)) → (Counted → IsPut u.rows u.notes (sought t 0 n)) →
    IsFound next Counted 0 generations (sought t 0 n) u r
IsFound-put t n {next} {Counted} {generations} {r} {u} some found put =
    let s = sought t 0 n in
    let square = subst (StandsFor u.rows 1 r) (sym (result-later next generations s some)) found in
    grind (arith, square, Puts-last next generations s (IsPut u.rows u.notes), put)

-- it is found still in a table that grew, where more is put
pub IsFound-then : {next : List ℕ → ℕ} {Counted Also : Type 0} {k generations n : ℕ} {s : Square} {u v : Table} →
    Grows u v → (Also → Counted) → (Also → (q : Square) → IsPut u.rows u.notes q → IsPut v.rows v.notes q) →
    IsFound next Counted k generations s u n → IsFound next Also k generations s v n
IsFound-then {next} {Counted} {Also} {k} {generations} {n} {s} {u} {v} grows counts kept is =
    let puts = Puts-weaker next k generations s (IsPut u.rows u.notes) (IsPut v.rows v.notes) in
    grind (arith, StandsFor-grows u v (suc k) n, puts)

-- a table with the same squares grew
pub Grows-rows : {u v : Table} → KeepsRows u v → Grows u v
Grows-rows {u} {v} same = record { limit = same.limit; more = []; rows = same.rows ∙ sym (append-nil u.rows) }

-- and then it was remembered
pub Keeps-noted : {next new : List ℕ → ℕ} {c d k generations n r : ℕ} {Counted : Type 0} {Way : (Square → Type 0) → Type 0} {t u v : Table} {memo : Memo}
    (more : Memo) → KeepsOnWay next new c d Way t u memo → IsNumber t.rows (suc (suc k)) n → IsFound next Counted k generations (sought t k n) u r →
    KeepsRows u v → StaysRight k generations n r u memo v more → KeepsOnWay next new c d Way t v more
Keeps-noted {next} {new} {c} {d} {k} {generations} {n} {r} {Counted} {Way} {t} {u} {v} more keeps numbered found rows stays =
    let same = square_in-grows t u (suc (suc k)) n keeps.grows numbered in
    let is : IsResult next u.rows k generations n r = grind (arith, IsNumber-grows t u (suc (suc k)) n keeps.grows numbered, same, found) in
    record {
      rule = keeps.rule;
      grows = Grows-then t u v keeps.grows (Grows-rows rows);
      right = stays next keeps.right is;
      adds = λ all way are. subst (AreAmong all) (sym rows.rows) (keeps.adds all way are);
    }

-- where numbers stand for squares, what is found for them is of these
pub StandForAll-found : {next : List ℕ → ℕ} {k generations : ℕ} {numbers found : List ℕ} {ss : List Square} {t u : Table} {memo : Memo} →
    StandForAll t.rows (suc (suc k)) numbers ss → FindsForAll next k generations numbers t memo u found → StandForAll u.rows (suc k) found (map (result next k generations) ss)
StandForAll-found {next} {k} {generations} {numbers} {found} {ss} {t} {u} are finds = record {
  count = finds.count ∙ are.count ∙ sym (length-map ss (result next k generations));
  each = λ j d e below.
      let of = get_or-map (result next k generations) ss j (one 0) e in
      grind (arith, are.each j 0 (one 0), finds, finds.each j 0 d, of);
}

-- what holds of the squares holds by the numbers, and the other way round
module _ {rows : List (List ℕ)} {level : ℕ} {numbers : List ℕ} {ss : List Square} (are : StandForAll rows level numbers ss)
    (P : Square → Type 0) where
  pub by_number : All P ss → All (λ n. P (square_in rows level n)) numbers
  by_number holds i d below = grind (arith, are.each i d (one 0), holds i (one 0))

  pub by_square : ((j d : ℕ) → j < length numbers → P (square_in rows level (get_or numbers j d))) → All P ss
  by_square holds i e below = grind (arith, are.each i 0 e, holds i 0)

-- so what is put on the ways to these was put
pub by_found : (t : Table) (found : List ℕ) {next : List ℕ → ℕ} {Counted : Type 0} {l m : ℕ} {numbers : List ℕ} {ss : List Square} {u : Table} →
    StandForAll t.rows (suc (suc l)) numbers ss →
    ((j d : ℕ) → j < length numbers → IsFound next Counted l m (sought t l (get_or numbers j d)) u (get_or found j d)) →
    Counted → All (λ q. Puts next l m q (IsPut u.rows u.notes)) ss
by_found t found {next} {Counted} {l} {m} {numbers} {ss} {u} are each is =
    by_square are (λ q. Puts next l m q (IsPut u.rows u.notes)) (λ j d below. (each j d below).put is)

-- above level 2 it is remembered
module _ {next : List ℕ → ℕ} {k generations n r : ℕ} {t u v : Table} {old mid new : Memo} (high : 0 < k) (grows : Grows t u)
    (numbered : IsNumber t.rows (suc (suc k)) n) (rows : KeepsRows u v) (noted : IsRemembered k generations n r u mid v new) (some : 0 < r)
    (found : IsFound next (IsCounted next k generations t old) k generations (sought t k n) u r) where
  number : IsNumber u.rows (suc (suc k)) n
  number = IsNumber-grows t u (suc (suc k)) n grows numbered

  pub found_still : IsFound next (IsCounted next k generations t old) k generations (sought t k n) v r
  found_still = IsFound-then (Grows-rows rows) (λ is. is) (λ is s put. put_still u v number rows noted some s put) found

  pub asks_still : {a b : ℕ} → (IsCounted next k generations t old → Asks next (Puts next k generations (sought t k n)) t a u mid b) →
      IsCounted next k generations t old → Asks next (Puts next k generations (sought t k n)) t a v new b
  unfolding places_put
  asks_still {a} {b} asks is =
      let same = sym (square_in-grows t u (suc (suc k)) n grows numbered) in
      let way = subst (λ s. Puts next k generations s (IsPut v.rows v.notes)) same (found_still.put is) in
      let places = picked-same (is_put u.rows v.notes) (is_put u.rows u.notes) (length u.rows) (λ i below.
      let apart = others k generations n r u mid v new i noted in
      let more = is_put-more u.rows v.notes (k - 1) i in
      grind (arith, number, cases_eq i (n - first_number), above u.rows (suc k) n number, apart, more, is_put-more u.rows u.notes (k - 1) i, is_put-agrees)) in
      Asks-next (asks is) (Asks-noted u v number rows noted some next way (ap (λ ps. b + 4 * length ps) (sym (places_noted rows ∙ places))) (asks is).has
      (λ all on_way two. absurd (omega (arith, high, one_level u.rows 2 (suc (suc k)) n two number))))
