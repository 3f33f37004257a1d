-- Several results, and a result by nine and by four.
use Rattle.hash_engine.proofs.Names.{Adds, AddsFours, AddsMiddles, AddsOf, All, All-cons, All-weaker, AreNumbers, Asks, CanCompute, CanSeek, CanSeekAll, Contains, FindsForAll, FirstAreFound, GiveAllOf, GiveFours, GivesMiddles, Grows}
use Rattle.hash_engine.proofs.Names.{Grows-same, GrowsBy, HasMade, IsBelow, IsCounted, IsFound, IsMade, IsMade-grows, IsNumber, IsNumber-grows, IsPut, IsRightMemo, IsSameRule, IsSquareOf, KeepsOnWay, List, Makes, Makes-itself, Makes-parts}
use Rattle.hash_engine.proofs.Names.{Makes-result, Makes-weaker, Makes-whole, MakesAll, MakesFor, MakesForAll, Memo, OfParts, Puts, Puts-parts, Puts-whole, PutsAll, Square, StandForAll, StandsFor, Table, ap, arith, cases_eq, four, fours_of}
use Rattle.hash_engine.proofs.Names.{get_or, get_or-map, get_or-set_other, get_or-set_same, get_or_default, in_two, inl, inr, length, length-map, length-set, map, middle, min, nine_of, notes_joined, one, refl, result-in_two, result-none}
use Rattle.hash_engine.proofs.Names.{set, sought, square_in-grows, square_of, square_of_four, subst, suc, sym, true, ℕ, ◌+◌, ◌-◌, ◌<◌, ◌^◌, ◌∙◌, ◌≡◌, ◌≤◌}
use Rattle.square_table.specs.Squares.{square_in}
use Rattle.hash_engine.proofs.Making.{HasMade-grows}
use Rattle.hash_engine.proofs.Finding.{HasPut-grows, same_rule, Keeps-adds, Keeps-grown, Keeps-then, IsFound-then, made_of, one_result, StandForAll-found, by_number, by_square, by_found, Asks-then, Asks-grown, Asks-next, IsPut-kept}
use Rattle.hash_life_laws.specs.Result.{result}
use Rattle.hash_engine.proofs.Standing.{◌⟫◌, StandsFor-itself, StandsFor-grows, StandsFor-joined, Adds-made, four_stand}

-- the first i of the squares have their results, and the others are as they were
pub record AreDone (next : List ℕ → ℕ) (k generations i : ℕ) (olds news : List ℕ) (t : Table) (memo : Memo) (u : Table) : Type 0 where
  pub count : length news ≡ length olds
  pub found : FirstAreFound next (IsCounted next k generations t memo) k generations i olds t u news
  pub rest : (j d : ℕ) → i ≤ j → get_or news j d ≡ get_or olds j d

pub AreDone-all : {next : List ℕ → ℕ} {k generations i : ℕ} {olds news : List ℕ} {t u : Table} {memo : Memo} →
    AreDone next k generations i olds news t memo u → length olds ≤ i → FindsForAll next k generations olds t memo u news
AreDone-all are all = record { count = are.count; each = λ j d e below. are.found j d e (omega (arith, below, all)) }

-- what is made on the ways to the first i is there, where all was that is made on those to what was remembered
abbrev pub FirstAreMade : (List ℕ → ℕ) → ℕ → ℕ → ℕ → List ℕ → Table → Memo → Table → Memo → Type 0
FirstAreMade next k generations i olds t old u new = HasMade next t old → HasMade next u new ×
    ((j d : ℕ) → j < i → Makes next k generations (sought t k (get_or olds j d)) (IsMade u.rows))

pub FirstAreMade-all : (next : List ℕ → ℕ) (k generations : ℕ) (olds : List ℕ) (t u : Table) {i : ℕ} {old new : Memo} →
    FirstAreMade next k generations i olds t old u new → length olds ≤ i → MakesForAll next k generations olds t old u new
FirstAreMade-all next k generations olds t u made all has = let are = made has in (are.0, λ j d below. are.1 j d (omega (arith, below, all)))

-- one square's turn
module _ {next mid : List ℕ → ℕ} {c d k ahead i : ℕ} {olds news : List ℕ} {t u : Table} {first before : Memo}
    (can : CanSeekAll next c t first k ahead olds) (below : i < length olds)
    (keeps : KeepsOnWay next mid c d (MakesAll next k ahead olds t) t u before)
    (done : AreDone next k ahead i olds news t first u) where
  -- its cells are what they were
  same : (e : ℕ) → sought u k (get_or news i 0) ≡ sought t k (get_or olds i e)
  same e =
      let grown = square_in-grows t u (suc (suc k)) (get_or olds i e) keeps.grows in
      grind (arith, done.rest i 0, get_or_default olds i 0 e below, grown, can.ready i e below)

  pub turn_can : CanSeek mid d u before k ahead (get_or news i 0)
  turn_can = grind (arith, done.rest i 0, IsNumber-grows t u (suc (suc k)) (get_or olds i 0) keeps.grows, same 0, can.ready i 0 below)

  module _ {new : List ℕ → ℕ} {e : ℕ} {v : Table} {after : Memo}
      (now : KeepsOnWay mid new d e (Makes mid k ahead (sought u k (get_or news i 0))) u v after) where
    pub turn_keeps : KeepsOnWay next new c e (MakesAll next k ahead olds t) t v after
    turn_keeps = Keeps-then keeps (λ all ways. let here = ways i 0 below in grind (arith, same 0, here)) now

    -- and what is made on the way to it
    pub turn_made : FirstAreMade next k ahead i olds t first u before → MakesFor mid k ahead (get_or news i 0) u before v after →
        FirstAreMade next k ahead (i + 1) olds t first v after
    turn_made made more has =
        let was = made has in
        let is = subst (λ f. MakesFor f k ahead (get_or news i 0) u before v after) keeps.rule.meaning more was.0 in (
          is.0,
          λ j d early. elim (cases_eq j i) [
            | inl here ↦ grind (arith, here, same d, is.1)
            | inr other ↦
                Makes-weaker next k ahead (sought t k (get_or olds j d)) (IsMade u.rows) (IsMade v.rows) (λ q there. IsMade-grows u v q now.grows there)
                (was.1 j d (omega (arith, early, other)))
          ],
        )

    module _ {a0 a1 a2 : ℕ} (asks : IsCounted next k ahead t first → Asks next (PutsAll next k ahead olds t) t a0 u before a1)
        (more : IsCounted mid k ahead u before → Asks mid (Puts mid k ahead (sought u k (get_or news i 0))) u a1 v after a2) where
      counted : IsCounted next k ahead t first → IsCounted next k ahead u before
      counted is = grind arith

      now_asks : IsCounted next k ahead t first → Asks next (Puts next k ahead (sought u k (get_or news i 0))) u a1 v after a2
      now_asks is = grind (arith, more, counted is, keeps.rule.meaning)

      pub turn_asks : IsCounted next k ahead t first → Asks next (PutsAll next k ahead olds t) t a0 v after a2
      turn_asks is = Asks-then (asks is) (λ all ways. let here = ways i 0 below in grind (arith, same 0, here)) (now_asks is)

      pub turn_done : {r : ℕ} → IsFound mid (IsCounted mid k ahead u before) k ahead (sought u k (get_or news i 0)) v r →
          AreDone next k ahead (i + 1) olds (set news i r) t first v
      turn_done {r} found = record {
        count = length-set news i r ∙ done.count;
        found = λ j d e early. elim (cases_eq j i) [
          | inl here ↦
              let at = get_or-set_same news i r e (omega (arith, below, done.count)) in
              grind (arith, found, keeps.rule.meaning, counted, same d, at)
          | inr other ↦
              let kept = λ (is : IsCounted next k ahead t first). (now_asks is).kept in
              let was = IsFound-then now.grows (λ is. is) kept (done.found j d e (omega (arith, early, other))) in
              grind (arith, was, get_or-set_other news i j r e)
        ];
        rest = λ j e above. grind (arith, get_or-set_other news i j r e, done.rest j e);
      }

-- the square that four results make
pub four_results : (rows : List (List ℕ)) (k n : ℕ) (f g : Square → Square) {now : List (List ℕ)} {l : ℕ} {ends : List ℕ} →
    StandForAll now l ends (map g (fours_of (map f (nine_of (square_in rows (suc k) n))))) →
    AreNumbers now l ends × (square_of now l ends ≡ in_two f g (square_in rows (suc k) n))
unfolding square_in
four_results rows k n f g are = four_stand are

-- the square that the middles of the four make
four_middles : (rows : List (List ℕ)) (k n : ℕ) (f : Square → Square) →
    square_of_four (map middle (fours_of (map f (nine_of (square_in rows (suc k) n))))) ≡ in_two f middle (square_in rows (suc k) n)
unfolding square_in
four_middles rows k n f = refl

in_two-none : (next : List ℕ → ℕ) (k : ℕ) (f : Square → Square) (s : Square) → in_two f (result next k 0) s ≡ in_two f middle s
unfolding result
in_two-none next k f (one x) = refl
in_two-none next k f (four a b c d) = refl

All-map : (f : Square → Square) (P : Square → Type 0) (ss : List Square) → All (λ s. P (f s)) ss → All P (map f ss)
All-map f P ss all j d below =
    let inside : j < length ss = subst (λ l. j < l) (length-map ss f) below in
    subst P (sym (get_or-map f ss j (one 0) d inside)) (all j (one 0) inside)

-- a square s of level k + 2 with this number, above level 2
module _ {next : List ℕ → ℕ} {c : ℕ} {t : Table} {memo : Memo} {k ahead number first half : ℕ}
    (can : CanCompute next c t memo k ahead number) (is_min : first ≡ min ahead half) (is_half : half ≡ 2 ^ (k - 1)) where
  is_first : first ≡ min ahead (2 ^ (k - 1))
  is_first = is_min ∙ ap (min ahead) is_half

  abbrev s : Square
  s = sought t k number

  -- the four of the nine results
  abbrev fours : List Square
  fours = fours_of (map (result next (k - 1) first) (nine_of s))

  is_k : suc (k - 1) ≡ k
  is_k = omega (arith, can.above)

  pub makes_parts : (P : Square → Type 0) → Makes next k ahead s P → OfParts next (k - 1) first (ahead - first) s (λ m q. Makes next (k - 1) m q P)
  makes_parts P makes =
      Makes-parts next (k - 1) ahead first s P can.some is_first (subst (λ l. Makes next l ahead s P) (sym is_k) makes)

  pub puts_parts : (P : Square → Type 0) → Puts next k ahead s P → OfParts next (k - 1) first (ahead - first) s (λ m q. Puts next (k - 1) m q P)
  puts_parts P puts =
      Puts-parts next (k - 1) ahead first s P can.some is_first (subst (λ l. Puts next l ahead s P) (sym is_k) puts)

  stands : StandsFor t.rows (suc (suc k)) number s
  stands = StandsFor-itself t.rows (suc (suc k)) number can.seek.ready.numbered

  -- numbers that stand for squares of one level less can be sought
  can_all : {mid : List ℕ → ℕ} {d m : ℕ} {u : Table} {after : Memo} {numbers : List ℕ} {ss : List Square} →
      IsSameRule next mid c d → IsRightMemo next u after → StandForAll u.rows (suc (suc (k - 1))) numbers ss →
      All (λ q. Puts next (k - 1) m q (IsBelow c)) ss → CanSeekAll mid d u after (k - 1) m numbers
  can_all {mid} {d} {m} {u} {after} {numbers} {ss} rule right are puts =
      let below = by_number are (λ q. Puts next (k - 1) m q (IsBelow c)) puts in
      grind (arith, below, are.each)

  -- the nine
  module _ {a : Table} (adds : AddsOf nine_of t number a) where
    nine_added : Adds (nine_of s) t a
    nine_added = adds k s stands

    pub nine_keeps : KeepsOnWay next next c c (Makes next k ahead s) t a memo
    nine_keeps = Keeps-adds (same_rule next c) can.seek.right nine_added
        (λ all way. All-weaker _ _ (λ q. Makes-itself next (k - 1) first q (Contains all)) (nine_of s) (makes_parts (Contains all) way).0)

    module _ {nine : List ℕ} (give : GiveAllOf nine_of t number a nine) where
      nine_are : StandForAll a.rows (suc (suc (k - 1))) nine (nine_of s)
      nine_are = subst (λ l. StandForAll a.rows (suc l) nine (nine_of s)) (sym is_k) (give k s stands)

      pub nine_can : CanSeekAll next c a memo (k - 1) first nine
      nine_can = can_all nine_keeps.rule nine_keeps.right nine_are (puts_parts (IsBelow c) can.seek.ready.below).0

      -- their results
      module _ {mid : List ℕ → ℕ} {d : ℕ} {b : Table} {after : Memo}
          (one_keeps : KeepsOnWay next mid c d (MakesAll next (k - 1) first nine a) a b after) where
        pub first_keeps : KeepsOnWay next mid c d (Makes next k ahead s) t b after
        first_keeps = Keeps-then nine_keeps
            (λ all way. by_number nine_are (λ q. Makes next (k - 1) first q (Contains all)) (makes_parts (Contains all) way).0)
            one_keeps

        -- where no generation is left, the middles of the four of these
        module _ {results : List ℕ} (one_finds : FindsForAll next (k - 1) first nine a memo b results) (all_first : first ≡ ahead) where
          nine_results : StandForAll b.rows (suc (k - 1)) results (map (result next (k - 1) first) (nine_of s))
          nine_results = StandForAll-found nine_are one_finds

          pub middles_can : (l : ℕ) × All (IsNumber b.rows (suc l)) results
          middles_can = (k - 1, λ j d below. (nine_results.each j d (one 0) below).numbered)

          left : ahead - first ≡ 0
          left = omega (arith, all_first)

          -- their square is the result
          middles_are : square_of_four (map middle fours) ≡ result next k ahead s
          middles_are =
              let made = four_middles t.rows (suc k) number (result next (k - 1) first) in
              let none = in_two-none next (k - 1) (result next (k - 1) first) s in
              let two = result-in_two next (k - 1) ahead s can.some in
              let same = subst (λ m. result next (suc (k - 1)) ahead s ≡ in_two (result next (k - 1) m) (result next (k - 1) (ahead - m)) s) (sym is_first) two in
              let last = subst (λ m. result next (suc (k - 1)) ahead s ≡ in_two (result next (k - 1) first) (result next (k - 1) m) s) left same in
              made ∙ sym none ∙ sym last ∙ ap (λ l. result next l ahead s) is_k

          pub middles_found : memo.is_lean ≡ true → (e : Table) (r : ℕ) → GivesMiddles b results e r → IsFound next (IsCounted next k ahead t memo) k ahead s e r
          middles_found lean e r gives = record {
            square =
                subst (λ l. StandsFor e.rows (suc l) r (result next k ahead s)) is_k
                (subst (StandsFor e.rows (suc (suc (k - 1))) r) middles_are (gives (k - 1) _ nine_results));
            put = λ is. absurd (cc (is.has.whole, lean));
          }

          pub middles_keeps : {e : Table} → AddsMiddles b results e → KeepsOnWay next mid c d (Makes next k ahead s) t e after
          middles_keeps {e} adds = Keeps-grown first_keeps (adds (k - 1) _ nine_results) (λ all way.
              let whole = subst (Contains all) (sym middles_are) (Makes-result next k ahead s (Contains all) way) in
              let parts = subst (λ m. All (λ q. Makes next (k - 1) m q (Contains all)) fours) left (makes_parts (Contains all) way).1 in
              let each = All-weaker _ _ (λ q makes. subst (Contains all) (result-none next (k - 1) q) (Makes-result next (k - 1) 0 q (Contains all) makes)) fours parts in
              All-cons (Contains all) _ _ whole (All-map middle (Contains all) fours each))

        -- the four of these
        module _ {results : List ℕ} {e : Table} (one_finds : FindsForAll next (k - 1) first nine a memo b results)
            (adds_four : AddsFours b results e) where
          results_are : StandForAll b.rows (suc (k - 1)) results (map (result next (k - 1) first) (nine_of s))
          results_are = StandForAll-found nine_are one_finds

          added : Adds fours b e
          added = adds_four (suc (k - 1)) _ results_are

          be : Grows b e
          be = added.grows

          pub fours_keeps : KeepsOnWay next mid c d (Makes next k ahead s) t e after
          fours_keeps = Keeps-grown first_keeps (adds_four (suc (k - 1)) _ results_are)
              (λ all way. All-weaker _ _ (λ q. Makes-itself next (k - 1) (ahead - first) q (Contains all)) fours (makes_parts (Contains all) way).1)

          module _ {four_numbers : List ℕ} (give_four : GiveFours b results e four_numbers) where
            fours_are : StandForAll e.rows (suc (suc (k - 1))) four_numbers fours
            fours_are = give_four (suc (k - 1)) _ results_are

            pub fours_can : CanSeekAll mid d e after (k - 1) (ahead - first) four_numbers
            fours_can = can_all fours_keeps.rule fours_keeps.right fours_are (puts_parts (IsBelow c) can.seek.ready.below).1

            -- their results
            module _ {new : List ℕ → ℕ} {n : ℕ} {f : Table} {last : Memo}
                (two_keeps : KeepsOnWay mid new d n (MakesAll mid (k - 1) (ahead - first) four_numbers e) e f last) where
              pub last_keeps : KeepsOnWay next new c n (Makes next k ahead s) t f last
              last_keeps = Keeps-then fours_keeps
                  (λ all way. subst (λ g. MakesAll g (k - 1) (ahead - first) four_numbers e (Contains all)) (sym fours_keeps.rule.meaning)
                  (by_number fours_are (λ q. Makes next (k - 1) (ahead - first) q (Contains all)) (makes_parts (Contains all) way).1))
                  two_keeps

              -- the square of these
              module _ {ends : List ℕ} {g : Table} (two : FindsForAll mid (k - 1) (ahead - first) four_numbers e after f ends)
                  (fg : Grows f g) (step : GrowsBy ends f g) where
                same_notes : g.notes ≡ f.notes
                same_notes = notes_joined ends step

                two_finds : FindsForAll next (k - 1) (ahead - first) four_numbers e after f ends
                two_finds = subst (λ h. FindsForAll h (k - 1) (ahead - first) four_numbers e after f ends) fours_keeps.rule.meaning two

                four_ends : AreNumbers f.rows (suc (k - 1)) ends × (square_of f.rows (suc (k - 1)) ends ≡ result next k ahead s)
                four_ends =
                    let joined = four_results t.rows (suc k) number (result next (k - 1) first) (result next (k - 1) (ahead - first)) (StandForAll-found fours_are two_finds) in
                    grind (arith, joined, is_first, result-in_two next (k - 1) ahead s can.some, is_k)

                joined : (r : ℕ) → IsSquareOf g.rows ends r → StandsFor g.rows (suc k) r (result next k ahead s)
                joined r is = let whole = StandsFor-joined four_ends.0 fg is (Grows-same g) in grind (arith, whole, four_ends.1, is_k)

                pub joined_keeps : KeepsOnWay next new c n (Makes next k ahead s) t g last
                joined_keeps = Keeps-grown last_keeps (Adds-made four_ends.0 fg step) (one_result next k ahead s four_ends.1)

                -- what is made on the way is there in the end
                joined_made : MakesForAll next (k - 1) first nine a memo b after →
                    MakesForAll mid (k - 1) (ahead - first) four_numbers e after f last → (r : ℕ) → IsSquareOf g.rows ends r →
                    MakesFor next k ahead number t memo g last
                joined_made first_made more r is has =
                    let nine_made = first_made (HasMade-grows next t a memo nine_keeps.grows nine_added.notes can.seek.right has) in
                    let still = HasMade-grows next b e after be added.notes first_keeps.right nine_made.0 in
                    let four_made = subst (λ h. MakesForAll h (k - 1) (ahead - first) four_numbers e after f last) fours_keeps.rule.meaning more still in
                    let to_end = λ (h : Table) (m : ℕ) (hg : Grows h g) (q : Square). Makes-weaker next (k - 1) m q (IsMade h.rows) (IsMade g.rows)
                    (λ p there. IsMade-grows h g p hg there) in
                    let nine_there = by_square nine_are (λ q. Makes next (k - 1) first q (IsMade g.rows))
                    (λ j d below. to_end b first (be ⟫ two_keeps.grows ⟫ fg) _ (nine_made.1 j d below)) in
                    let four_there = by_square fours_are (λ q. Makes next (k - 1) (ahead - first) q (IsMade g.rows))
                    (λ j d below. to_end f (ahead - first) fg _ (four_made.1 j d below)) in
                    let whole = made_of (StandsFor-grows t g (suc (suc k)) number s (last_keeps.grows ⟫ fg) stands) in
                    let at = subst (λ l. IsMade g.rows (result next l ahead s)) (sym is_k) (made_of (joined r is)) in (
                      HasMade-grows next f g last fg same_notes last_keeps.right four_made.0,
                      subst (λ l. Makes next l ahead s (IsMade g.rows)) is_k
                          (Makes-whole next (k - 1) ahead first s (IsMade g.rows) can.some is_first whole at (nine_there, four_there)),
                    )

                module _ {a0 a1 a2 : ℕ}
                    (one_asks : IsCounted next (k - 1) first a memo → Asks next (PutsAll next (k - 1) first nine a) a a0 b after a1)
                    (more : IsCounted mid (k - 1) (ahead - first) e after →
                    Asks mid (PutsAll mid (k - 1) (ahead - first) four_numbers e) e a1 f last a2) where
                  -- so far, and then
                  counts_nine : IsCounted next k ahead t memo → IsCounted next (k - 1) first a memo
                  counts_nine is = record { few = omega (arith, is_first); has = HasPut-grows next t a memo nine_keeps.grows nine_added.notes can.seek.right is.has }

                  asks_fours : IsCounted next k ahead t memo → Asks next (Puts next k ahead s) t a0 e after a1
                  asks_fours is =
                      let first_asks = Asks-then (Asks-grown nine_keeps.grows nine_added.notes can.seek.right is.has)
                      (λ all way. by_number nine_are (λ q. Puts next (k - 1) first q (Contains all)) (puts_parts (Contains all) way).0)
                      (one_asks (counts_nine is)) in
                      Asks-next first_asks (Asks-grown be added.notes first_keeps.right first_asks.has)

                  counts_fours : IsCounted next k ahead t memo → IsCounted next (k - 1) (ahead - first) e after
                  counts_fours is =
                      let level : 2 ^ k ≡ 2 ^ (k - 1) + 2 ^ (k - 1) = ap (λ l. 2 ^ l) (sym is_k) ∙ omega arith in
                      record { few = omega (arith, is_first, is.few, level); has = (asks_fours is).has }

                  asks_last : IsCounted next k ahead t memo →
                      Asks next (PutsAll next (k - 1) (ahead - first) four_numbers e) e a1 f last a2
                  asks_last is =
                      subst (λ h. IsCounted h (k - 1) (ahead - first) e after →
                      Asks h (PutsAll h (k - 1) (ahead - first) four_numbers e) e a1 f last a2)
                      fours_keeps.rule.meaning more (counts_fours is)

                  joined_asks : IsCounted next k ahead t memo → Asks next (Puts next k ahead s) t a0 g last a2
                  joined_asks is =
                      let asks = Asks-then (asks_fours is)
                      (λ all way. by_number fours_are (λ q. Puts next (k - 1) (ahead - first) q (Contains all)) (puts_parts (Contains all) way).1)
                      (asks_last is) in
                      Asks-next asks (Asks-grown fg same_notes last_keeps.right asks.has)

                  -- what is found is there in the end
                  joined_finds : (r : ℕ) → IsSquareOf g.rows ends r → IsFound next (IsCounted next k ahead t memo) k ahead s g r
                  joined_finds r is =
                      let kept = λ (q : Square) (put : IsPut f.rows f.notes q). IsPut-kept f g q fg same_notes put in
                      let nine_put = by_found a results nine_are (λ j d below. IsFound-then (be ⟫ two_keeps.grows ⟫ fg) counts_nine
                      (λ is q put. kept q ((asks_last is).kept q (IsPut-kept b e q be added.notes put))) (one_finds.each j d d below)) in
                      let four_put = by_found e ends fours_are (λ j d below. IsFound-then fg counts_fours (λ is q put. kept q put) (two_finds.each j d d below)) in
                      record {
                        square = joined r is;
                        put = λ is. subst (λ l. Puts next l ahead s (IsPut g.rows g.notes)) is_k
                            (Puts-whole next (k - 1) ahead first s (IsPut g.rows g.notes) can.some is_first (nine_put is, four_put is));
                      }

                  pub joined_all : {r : ℕ} → IsSquareOf g.rows ends r → MakesForAll next (k - 1) first nine a memo b after →
                      MakesForAll mid (k - 1) (ahead - first) four_numbers e after f last → KeepsOnWay next new c n (Makes next k ahead s) t g last ×
                      IsFound next (IsCounted next k ahead t memo) k ahead s g r ×
                      (IsCounted next k ahead t memo → Asks next (Puts next k ahead s) t a0 g last a2) × MakesFor next k ahead number t memo g last
                  joined_all {r} is first_made more_made = (joined_keeps, joined_finds r is, joined_asks, joined_made first_made more_made r is)
