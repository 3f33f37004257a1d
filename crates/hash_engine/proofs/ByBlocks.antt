-- The result of a square of 8 by 8 cells by blocks of 4 by 4.
use Rattle.hash_engine.proofs.Names.{Adds, All, All-cons, All-nil, AreBlocks, AreNumbers, AreNumbers-grows, Block, CanCompute, CanSeekBlock, CanSeekBlocks, Contains, FindsBlock, FirstHaveResults, GiveFourBlocks, Grows, Grows-same, GrowsBy}
use Rattle.hash_engine.proofs.Names.{IsBelow, IsKnownBlock, IsReadyBlock, IsRightMemo, IsSameRule, IsSquareOf, KeepsOnWay, List, Makes, Makes-result, Memo, Puts, Square, StandForAll, StandsFor, Table, [], ap, arith, cases_eq, fours_of}
use Rattle.hash_engine.proofs.Names.{get_or, get_or-map, get_or-set_other, get_or-set_same, get_or_default, inl, inr, later, later_of, length, length-map, length-set, map, middle, min, nine_of, no_block, one, refl, result, result-in_two}
use Rattle.hash_engine.proofs.Names.{result-later, result-none, result_of, set, sought, square_of, square_of-grows, subst, sym, ℕ, ◌+◌, ◌-◌, ◌<◌, ◌∙◌, ◌∷◌, ◌≡◌}
use Rattle.hash_engine.proofs.Standing.{corner, StandsFor-grows, StandsFor-joined, Adds-made}
use Rattle.hash_engine.proofs.Finding.{same_rule, Keeps-adds, Keeps-grown, Keeps-then, one_result}
use Rattle.hash_engine.proofs.Computing.{four_results, makes_parts, puts_parts}

-- what follows of a way
pub Keeps-way : {next new : List ℕ → ℕ} {c d : ℕ} {Way Rest : (Square → Type 0) → Type 0} {t u : Table} {memo : Memo} →
    ((all : List Square) → Way (Contains all) → Rest (Contains all)) → KeepsOnWay next new c d Rest t u memo → KeepsOnWay next new c d Way t u memo
Keeps-way so keeps = grind arith

-- the middle of a block for no generation, and for one or more
pub result_none : (next : List ℕ → ℕ) (s : Square) {generations : ℕ} → generations ≡ 0 → middle s ≡ result next 0 generations s
result_none next s none = sym (result-none next 0 s) ∙ ap (λ n. result next 0 n s) (sym none)

pub result_some : (next : List ℕ → ℕ) (s : Square) {generations : ℕ} → 0 < generations → later next s ≡ result next 0 generations s
result_some next s {generations} some = sym (result-later next generations s some)

-- the middle of a block some generations later, in a table that grew
pub later_of-grows : (next : List ℕ → ℕ) (generations : ℕ) (t u : Table) (quadrants : List ℕ) → Grows t u → AreNumbers t.rows 1 quadrants →
    later_of next generations u quadrants ≡ later_of next generations t quadrants
later_of-grows next generations t u quadrants grows are = ap (result next 0 generations) (square_of-grows t u 1 quadrants grows are)

-- where the table has the middle of the block more, or nothing
module _ (next : List ℕ → ℕ) (generations : ℕ) (t : Table) (quadrants : List ℕ) {new : List ℕ → ℕ} {c d : ℕ} {s : Square} {u : Table} {memo : Memo}
    (is : s ≡ later_of next generations t quadrants) (rule : IsSameRule next new c d) (adds : Adds (s ∷ []) t u) (right : IsRightMemo next t memo) where
  pub keeps_block : KeepsOnWay next new c d (λ P. P (later_of next generations t quadrants)) t u memo
  keeps_block = Keeps-adds rule right adds (λ all way. All-cons (Contains all) s [] (subst (Contains all) (sym is) way) (All-nil (Contains all)))

-- the block that is put to the rule, and its result
pub known_block : {next : List ℕ → ℕ} {t u : Table} {b : Block} → AreNumbers t.rows 1 b.quadrants → Grows t u →
    StandsFor u.rows 1 b.result (later next (square_of t.rows 1 b.quadrants)) → IsKnownBlock next u.rows b
known_block {next} {t} {u} {b} are grows stands some = record {
  numbered = AreNumbers-grows t u 1 b.quadrants grows are;
  result = subst (λ s. StandsFor u.rows 1 b.result (later next s)) (sym (square_of-grows t u 1 b.quadrants grows are)) stands;
}

-- one block's turn
module _ {next mid : List ℕ → ℕ} {c d ahead i : ℕ} {olds news : List Block} {t u : Table} {first before : Memo}
    (can : CanSeekBlocks next c t first ahead olds) (below : i < length olds)
    (keeps : KeepsOnWay next mid c d (λ P. All (λ b. P (later_of next ahead t b.quadrants)) olds) t u before)
    (done : FirstHaveResults next ahead i olds news t u) where
  -- its cells are what they were
  module _ (e : Block) where
    quadrants : (get_or news i e).quadrants ≡ (get_or olds i e).quadrants
    quadrants = done.same i e

    ready : IsReadyBlock next c t.rows ahead (get_or olds i e).quadrants
    ready = can.ready i e below

    same : later_of next ahead u (get_or news i e).quadrants ≡ later_of next ahead t (get_or olds i e).quadrants
    same = ap (later_of next ahead u) quadrants ∙ later_of-grows next ahead t u (get_or olds i e).quadrants keeps.grows ready.numbered

    pub turn_can : CanSeekBlock mid d u before ahead (get_or news i e).quadrants
    turn_can =
        let square = square_of-grows t u 1 (get_or olds i e).quadrants keeps.grows ready.numbered in
        let numbered = AreNumbers-grows t u 1 (get_or olds i e).quadrants keeps.grows ready.numbered in
        grind (arith, quadrants, square, numbered, ready.below, keeps)

    module _ {new : List ℕ → ℕ} {n : ℕ} {v : Table} {after : Memo}
        (now : KeepsOnWay mid new d n (λ P. P (later_of mid ahead u (get_or news i e).quadrants)) u v after) where
      pub turn_keeps : KeepsOnWay next new c n (λ P. All (λ b. P (later_of next ahead t b.quadrants)) olds) t v after
      turn_keeps = Keeps-then keeps
          (λ all ways. let here = ways i e below in grind (arith, same, keeps.rule.meaning, here)) now

      pub turn_done : {r : ℕ} → FindsBlock mid ahead (get_or news i e).quadrants u v r →
          FirstHaveResults next ahead (i + 1) olds (set news i (record { quadrants = (get_or news i e).quadrants; result = r })) t v
      turn_done {r} found = record {
        count = length-set news i _ ∙ done.count;
        same = λ j d. elim (cases_eq j i) [
          | inl here ↦ grind (arith, here, get_or-set_same news i (record { quadrants = (get_or news i e).quadrants; result = r }) d, below, done.count, done.same i d, get_or_default news i e d)
          | inr other ↦ grind (arith, get_or-set_other news i j (record { quadrants = (get_or news i e).quadrants; result = r }) d, done.same j d)
        ];
        found = λ j d early. elim (cases_eq j i) [
          | inl here ↦
              let at = get_or-set_same news i (record { quadrants = (get_or news i e).quadrants; result = r }) d (omega (arith, below, done.count)) in
              grind (arith, here, at, found, same, keeps.rule.meaning, get_or_default olds i e d below)
          | inr other ↦
              let was = done.found j d (omega (arith, early, other)) in
              grind (arith, get_or-set_other news i j (record { quadrants = (get_or news i e).quadrants; result = r }) d, StandsFor-grows u v 1 _ _ now.grows was)
        ];
      }

-- what is found for blocks is the results of the squares that they have the cells of
StandForAll-blocks : {next : List ℕ → ℕ} {m : ℕ} {olds news : List Block} {ss : List Square} {t u : Table} →
    AreBlocks t.rows olds ss → FirstHaveResults next m (length olds) olds news t u → StandForAll u.rows 1 (map result_of news) (map (result next 0 m) ss)
StandForAll-blocks {next} {m} {olds} {news} {ss} {t} {u} are finds = record {
  count = length-map news result_of ∙ finds.count ∙ are.count ∙ sym (length-map ss (result next 0 m));
  each = λ j d e below.
      let inside : j < length news = subst (λ l. j < l) (length-map news result_of) below in
      let old : j < length olds = subst (λ l. j < l) finds.count inside in
      let block = are.each j no_block (one 0) old in
      let found = finds.found j no_block old in
      let number = get_or-map result_of news j no_block d inside in
      let square = get_or-map (result next 0 m) ss j (one 0) e (subst (λ l. j < l) are.count old) in
      grind (arith, block.cells, found, number, square);
}

-- what holds of all that is made on the ways to their results holds of these
blocks_way : (next : List ℕ → ℕ) (m : ℕ) (t : Table) {blocks : List Block} {ss : List Square} (P : Square → Type 0) → AreBlocks t.rows blocks ss →
    All (λ q. Makes next 0 m q P) ss → All (λ b. P (later_of next m t b.quadrants)) blocks
blocks_way next m t {blocks} {ss} P are makes j d below =
    let block = are.each j d (one 0) below in
    let made = Makes-result next 0 m _ P (makes j (one 0) (subst (λ l. j < l) are.count below)) in
    subst P (ap (result next 0 m) (sym block.cells)) made

-- a square of 8 by 8 cells with this number
module _ {next : List ℕ → ℕ} {c : ℕ} {t : Table} {memo : Memo} {ahead number : ℕ} (can : CanCompute next c t memo 1 ahead number) where
  abbrev s : Square
  s = sought t 1 number

  -- the four of the nine results
  abbrev fours : List Square
  fours = fours_of (map (result next 0 1) (nine_of s))

  is_first : 1 ≡ min ahead 1
  is_first = let some = can.some in omega (arith, some)

  -- blocks with states of the rule can be sought
  can_all : {mid : List ℕ → ℕ} {d m : ℕ} {u : Table} {after : Memo} {blocks : List Block} {ss : List Square} →
      IsSameRule next mid c d → IsRightMemo next u after → AreBlocks u.rows blocks ss →
      All (λ q. Puts next 0 m q (IsBelow c)) ss → CanSeekBlocks mid d u after m blocks
  can_all {mid} {d} {m} {u} {after} {blocks} {ss} rule right are puts = record {
    ready = λ j e below.
        let block = are.each j e (one 0) below in
        let put = puts j (one 0) (subst (λ l. j < l) are.count below) in
        grind (arith, rule, block, put);
    right = subst (λ f. IsRightMemo f u after) (sym rule.meaning) right;
  }

  -- the nine
  module _ {nine : List Block} (are : AreBlocks t.rows nine (nine_of s)) where
    pub nine_can : CanSeekBlocks next c t memo 1 nine
    nine_can = can_all (same_rule next c) can.seek.right are (puts_parts can is_first refl (IsBelow c) can.seek.ready.below).0

    -- their results
    module _ {mid : List ℕ → ℕ} {d : ℕ} {u : Table} {after : Memo}
        (one_keeps : KeepsOnWay next mid c d (λ P. All (λ b. P (later_of next 1 t b.quadrants)) nine) t u after) where
      pub first_keeps : KeepsOnWay next mid c d (Makes next 1 ahead s) t u after
      first_keeps = Keeps-way (λ all way. blocks_way next 1 t (Contains all) are (makes_parts can is_first refl (Contains all) way).0) one_keeps

      -- the four of these
      module _ {results four : List Block} (finds : FirstHaveResults next 1 (length nine) nine results t u) (gives : GiveFourBlocks results four) where
        fours_are : AreBlocks u.rows four fours
        fours_are = gives u.rows _ (StandForAll-blocks are finds)

        pub fours_can : CanSeekBlocks mid d u after (ahead - 1) four
        fours_can = can_all first_keeps.rule first_keeps.right fours_are (puts_parts can is_first refl (IsBelow c) can.seek.ready.below).1

        -- their results
        module _ {new : List ℕ → ℕ} {n : ℕ} {v : Table} {last : Memo}
            (two_keeps : KeepsOnWay mid new d n (λ P. All (λ b. P (later_of mid (ahead - 1) u b.quadrants)) four) u v last) where
          pub last_keeps : KeepsOnWay next new c n (Makes next 1 ahead s) t v last
          last_keeps = Keeps-then first_keeps
              (λ all way. subst (λ f. All (λ b. Contains all (later_of f (ahead - 1) u b.quadrants)) four) (sym first_keeps.rule.meaning)
              (blocks_way next (ahead - 1) u (Contains all) fours_are (makes_parts can is_first refl (Contains all) way).1)) two_keeps

          -- the square of these
          module _ {ends : List Block} {kids : List ℕ} {w : Table} (two : FirstHaveResults mid (ahead - 1) (length four) four ends u v)
              (listed : kids ≡ corner (map result_of ends) 0 1 2 3)
              (grows : Grows v w) where
            four_ends : AreNumbers v.rows 1 kids × (square_of v.rows 1 kids ≡ result next 1 ahead s)
            four_ends =
                let finds = subst (λ f. FirstHaveResults f (ahead - 1) (length four) four ends u v) first_keeps.rule.meaning two in
                let whole = four_results t.rows 2 number (result next 0 1) (result next 0 (ahead - 1)) (StandForAll-blocks fours_are finds) in
                grind (arith, listed, whole, is_first, result-in_two next 0 ahead s can.some)

            pub joined_block : (r : ℕ) → IsSquareOf w.rows kids r → StandsFor w.rows 2 r (result next 1 ahead s)
            joined_block r is = subst (StandsFor w.rows 2 r) four_ends.1 (StandsFor-joined four_ends.0 grows is (Grows-same w))

            pub joined_keeps : GrowsBy kids v w → KeepsOnWay next new c n (Makes next 1 ahead s) t w last
            joined_keeps step = Keeps-grown last_keeps (Adds-made four_ends.0 grows step) (one_result next 1 ahead s four_ends.1)
