-- Squares that are made of strips of the level below.
use Rattle.plane_core.proofs.Names.{AreAhead, AreBefore, AreExtended, AreLeft, AreMade, AreMadeTo, AreNumbers, Bool, IsEarlier, IsMade, IsNumber, IsOnward, IsOutOfRow, IsPair, IsReach, IsRow, Keeps, List, Some, Square, SquareRow, Strip, []}
use Rattle.plane_core.proofs.Names.{ap, arith, cases_lt, false, get_or, inl, inr, kid, number_at, sides_at, slice_get, square_of, subst, suc, sym, true, ℕ, ◌*◌, ◌+◌, ◌-◌, ◌/◌, ◌<◌, ◌^◌, ◌∙◌, ◌∷◌, ◌≡◌, ◌≤◌, ◌⊎◌}
use Rattle.plane_core.specs.Woven.{kids_at}
use Rattle.plane_core.proofs.Shared.Adding.{Keeps-then, quadrants-none, square_of-kept}
use Rattle.plane_core.proofs.Shared.Sound.{each_of_four, square_in-none, zero-IsNumber}
use Rattle.plane_core.proofs.Strips.{AreSameFrom, number-gone, number-short, number-none, by_first, first_some, ahead-first, all-onward}

-- lists of four, by their elements
pub same_four : (a b c d a' b' c' d' : ℕ) → a ≡ a' → b ≡ b' → c ≡ c' → d ≡ d' →
    ◌≡◌ {A = List ℕ} (a ∷ b ∷ c ∷ d ∷ []) (a' ∷ b' ∷ c' ∷ d' ∷ [])
same_four a b c d a' b' c' d' p q r s = λ i. p i ∷ q i ∷ r i ∷ s i ∷ []

-- where all four numbers stay for whole pairs of columns
pub pair-wide : (north south : List Strip) (x y a b ua ub until : ℕ) → IsReach north (2 * x) (2 * y) a ua → IsReach south (2 * x) (2 * y + 1) b ub → until ≤ ua → until ≤ ub → 2 * x + 2 ≤ until
    → IsPair north south x y (a ∷ a ∷ b ∷ b ∷ []) (until / 2)
pair-wide north south x y a b ua ub until ra rb la lb wide =
    let far = ra.far in record {
      more = omega arith;
      far = omega arith;
      same = λ i from to.
          same_four _ _ _ _ a a b b (ra.same (2 * i) (omega arith) (omega arith)) (ra.same (2 * i + 1) (omega arith) (omega arith))
          (rb.same (2 * i) (omega arith) (omega arith)) (rb.same (2 * i + 1) (omega arith) (omega arith));
    }

-- one column alone
pub pair-narrow : (north south north' south' : List Strip) (x y a b c d ua ub uc ud : ℕ) → IsReach north (2 * x) (2 * y) a ua → IsReach south (2 * x) (2 * y + 1) b ub
    → AreLeft north north' (2 * x + 1) (2 * y) → AreLeft south south' (2 * x + 1) (2 * y + 1) → IsReach north' (2 * x + 1) (2 * y) c uc → IsReach south' (2 * x + 1) (2 * y + 1) d ud
    → 2 * x + 1 < 2 ^ 32 → IsPair north south x y (a ∷ c ∷ b ∷ d ∷ []) (x + 1)
pair-narrow north south north' south' x y a b c d ua ub uc ud ra rb ln ls rc rd near =
    let ma = ra.more in let mb = rb.more in let mc = rc.more in let md = rd.more in record {
      more = omega arith;
      far = omega arith;
      same = λ i from to.
          let is : x ≡ i = omega arith in
          subst (λ k. sides_at north south k y ≡ a ∷ c ∷ b ∷ d ∷ []) is
          (same_four _ _ _ _ a c b d (ra.same (2 * x) (omega arith) ma)
          (sym (ln.same (2 * x + 1) (2 * y) (record { row = omega arith; column = λ e. omega arith })) ∙ rc.same (2 * x + 1) (omega arith) mc)
          (rb.same (2 * x) (omega arith) mb)
          (sym (ls.same (2 * x + 1) (2 * y + 1) (record { row = omega arith; column = λ e. omega arith })) ∙ rd.same (2 * x + 1) (omega arith) md));
    }

-- what is left of a list that stands for another from a place on
pub left-then : (strips left more : List Strip) (x y : ℕ) → AreSameFrom strips left x y → AreLeft left more x y → AreSameFrom strips more x y
left-then strips left more x y same rest = λ i j o. rest.same i j o ∙ same i j o

-- and from a later place on
pub same-later : (strips left : List Strip) (x y i j : ℕ) → AreSameFrom strips left x y → IsOnward x y i j → AreSameFrom strips left i j
same-later strips left x y i j same o = λ a b p. let r = o.row in let c = o.column in let r' = p.row in let c' = p.column in same a b (record { row = omega arith; column = λ e. omega arith })

-- the kids of a level, by the strips that are left of two of its rows
pub kids-sides : (strips north south : List Strip) (x y i : ℕ) → AreSameFrom strips north (2 * x) (2 * y) → AreSameFrom strips south (2 * x) (2 * y + 1) → x ≤ i → kids_at strips i y ≡ sides_at north south i y
kids-sides strips north south x y i n s from = sym (same_four _ _ _ _ _ _ _ _
    (n (2 * i) (2 * y) (record { row = omega arith; column = λ e. omega arith })) (n (2 * i + 1) (2 * y) (record { row = omega arith; column = λ e. omega arith }))
    (s (2 * i) (2 * y + 1) (record { row = omega arith; column = λ e. omega arith })) (s (2 * i + 1) (2 * y + 1) (record { row = omega arith; column = λ e. omega arith })))

-- they are numbers
pub kids-numbers : (rows : List SquareRow) (k : ℕ) (strips : List Strip) (x y : ℕ) → AreNumbers rows k strips → (q : ℕ) → q < 4 → IsNumber rows k (get_or (kids_at strips x y) q 0)
kids-numbers rows k strips x y h = each_of_four (λ q. IsNumber rows k (get_or (kids_at strips x y) q 0)) (h _ _) (h _ _) (h _ _) (h _ _)

-- what was made stays made
pub made-then : (old r1 r2 : List SquareRow) (k n : ℕ) (s : Square) → IsMade old r1 k n s → Keeps r1 r2 → IsMade old r2 k n s
made-then old r1 r2 k n s made keeps = record { keeps = Keeps-then old r1 r2 made.keeps keeps; number = keeps.number k n made.number; square = keeps.square k n made.number ∙ made.square }

-- the row of a pair
pub pair-row : (old rows : List SquareRow) (level : ℕ) (strips north south : List Strip) (x y end : ℕ) (row : SquareRow) → 1 ≤ level → level ≤ 62 → row.level ≡ level → AreNumbers old (level - 1) strips → Keeps old rows
    → AreSameFrom strips north (2 * x) (2 * y) → AreSameFrom strips south (2 * x) (2 * y + 1) → IsPair north south x y row.kids end → IsRow rows row
pair-row old rows level strips north south x y end row low high is numbers keeps n s pair =
    let here : kids_at strips x y ≡ row.kids = kids-sides strips north south x y x n s (omega arith) ∙ pair.same x (omega arith) pair.more in
    record {
      low = omega arith;
      high = omega arith;
      kids = λ q few.
          subst (λ j. IsNumber rows (j - 1) (kid row q)) (sym is) (keeps.number (level - 1) (kid row q) (subst (λ (ks : List ℕ). IsNumber old (level - 1) (get_or ks q 0)) here (kids-numbers old (level - 1) strips x y numbers q few)));
    }

before_or_in : (i j x y end : ℕ) → IsEarlier i j end y → IsEarlier i j x y ⊎ ((j ≡ y) × (x ≤ i) × (i < end))
before_or_in i j x y end h = let r = h.row in let c = h.column in
    elim (cases_lt j y) [
      | inl low ↦ inl (record { row = omega arith; column = λ e. absurd (omega arith) })
      | inr same ↦
          let at : j ≡ y = omega arith in
          elim (cases_lt i x) [ inl near ↦ inl (record { row = omega arith; column = λ e. near }) | inr far ↦ inr (at, far, c at) ]
    ]

-- squares that are made of a pair
module _ (old r1 r2 : List SquareRow) (level : ℕ) (strips north south made made' : List Strip) (x y end n : ℕ) (kids : List ℕ) (s : Strip)
    (numbers : AreNumbers old (level - 1) strips) (to : AreMadeTo old r1 level strips made x y)
    (left_n : AreSameFrom strips north (2 * x) (2 * y)) (left_s : AreSameFrom strips south (2 * x) (2 * y + 1))
    (pair : IsPair north south x y kids end) (new : IsMade r1 r2 level n (square_of r1 (level - 1) kids))
    (ex : s.x ≡ x) (ey : s.y ≡ y) (ee : s.end ≡ end) (en : s.number ≡ n) (ext : AreExtended made made' s) where
  behind_all : AreBefore made s.x s.y
  behind_all = subst (λ j. AreBefore made s.x j) (sym ey) (subst (λ i. AreBefore made i y) (sym ex) to.before)

  pair_kids : (i : ℕ) → x ≤ i → i < end → kids_at strips i y ≡ kids
  pair_kids i from below = kids-sides strips north south x y i left_n left_s from ∙ pair.same i from below

  pair_old : square_of r1 (level - 1) kids ≡ square_of old (level - 1) kids
  pair_old = square_of-kept old r1 (level - 1) kids to.keeps
      (λ q few. subst (λ (ks : List ℕ). IsNumber old (level - 1) (get_or ks q 0)) (pair_kids x (omega arith) pair.more) (kids-numbers old (level - 1) strips x y numbers q few))

  pair_new : (i : ℕ) → x ≤ i → i < end → IsMade old r2 level (number_at made' i y) (square_of old (level - 1) (kids_at strips i y))
  pair_new i from below =
      let number : number_at made' i y ≡ n = ap (number_at made' i) (sym ey) ∙ ext.here behind_all i (omega arith) (omega arith) ∙ en in
      subst (λ m. IsMade old r2 level m (square_of old (level - 1) (kids_at strips i y))) (sym number) (record {
        keeps = Keeps-then old r1 r2 to.keeps new.keeps;
        number = new.number;
        square = new.square ∙ pair_old ∙ ap (square_of old (level - 1)) (sym (pair_kids i from below));
      })

  pair_before : (i j : ℕ) → IsEarlier i j x y → IsMade old r2 level (number_at made' i j) (square_of old (level - 1) (kids_at strips i j))
  pair_before i j h =
      let c = h.column in
      let number : number_at made' i j ≡ number_at made i j = ext.others behind_all i j (λ row from below. let near : i < x = c (row ∙ ey) in absurd (omega arith)) in
      subst (λ m. IsMade old r2 level m (square_of old (level - 1) (kids_at strips i j))) (sym number) (made-then old r1 r2 level _ _ (to.each i j h) new.keeps)

  pub made-pair : AreMadeTo old r2 level strips made' end y
  made-pair = let more = pair.more in record {
    keeps = Keeps-then old r1 r2 to.keeps new.keeps;
    each = λ i j h. elim (before_or_in i j x y end h) [
      | inl early ↦ pair_before i j early
      | inr here ↦ subst (λ j. IsMade old r2 level (number_at made' i j) (square_of old (level - 1) (kids_at strips i j))) (sym here.0) (pair_new i here.1 here.2)
    ];
    before = subst (λ i. AreBefore made' i y) ee (subst (λ j. AreBefore made' s.end j) ey (ext.before behind_all (omega arith)));
  }

abbrev zeros : List ℕ
zeros = 0 ∷ 0 ∷ 0 ∷ 0 ∷ []

made-none : (old rows : List SquareRow) (level : ℕ) → 1 ≤ level → Keeps old rows → IsMade old rows level 0 (square_of old (level - 1) zeros)
made-none old rows level low keeps =
    let up : suc (level - 1) ≡ level = omega arith in
    subst (λ k. IsMade old rows k 0 (square_of old (level - 1) zeros)) up (record {
      keeps = keeps;
      number = zero-IsNumber rows (suc (level - 1));
      square = square_in-none rows (suc (level - 1)) ∙ sym (square_in-none old (suc (level - 1))) ∙ (quadrants-none old (level - 1)).square;
    })

-- where no strip is there are empty squares
made-zeros : (old rows : List SquareRow) (level n : ℕ) (kids : List ℕ) → 1 ≤ level → Keeps old rows → n ≡ 0 → kids ≡ zeros → IsMade old rows level n (square_of old (level - 1) kids)
made-zeros old rows level n kids low keeps none empty =
    subst (λ m. IsMade old rows level m (square_of old (level - 1) kids)) (sym none)
    (subst (λ (ks : List ℕ). IsMade old rows level 0 (square_of old (level - 1) ks)) (sym empty) (made-none old rows level low keeps))

number-above : (south : List Strip) (f : Strip) (a b : ℕ) → Some f ≡ slice_get south 0 → b < f.y → number_at south a b ≡ 0
number-above south f a b first above = by_first (λ l. number_at l a b ≡ 0) south f first (λ rest is. number-short f rest a b (record { row = omega arith; column = λ e. absurd (omega arith) }) (λ e. absurd (omega arith)))

-- behind the last strips of two rows
module _ (strips north south : List Strip) (x y : ℕ) (left_n : AreSameFrom strips north (2 * x) (2 * y)) (left_s : AreSameFrom strips south (2 * x) (2 * y + 1))
    (ahead_n : AreAhead north (2 * x) (2 * y)) (ahead_s : AreAhead south (2 * x) (2 * y + 1)) (out_n : IsOutOfRow north (2 * y)) (out_s : IsOutOfRow south (2 * y + 1)) where
  pub out-kids : (i : ℕ) → x ≤ i → kids_at strips i y ≡ zeros
  out-kids i from = kids-sides strips north south x y i left_n left_s from
      ∙ same_four _ _ _ _ 0 0 0 0 (out_n.none (2 * x) (2 * i) ahead_n) (out_n.none (2 * x) (2 * i + 1) ahead_n) (out_s.none (2 * x) (2 * i) ahead_s) (out_s.none (2 * x) (2 * i + 1) ahead_s)

  pub gap-kids : (bound i j : ℕ) → ((a b : ℕ) → 2 * y + 1 < b → b < bound → number_at south a b ≡ 0) → y < j → 2 * j + 1 < bound → kids_at strips i j ≡ zeros
  gap-kids bound i j none above below =
      let at = λ (a b : ℕ) (up : 2 * y + 1 < b) (low : b < bound). sym (left_s a b (record { row = omega arith; column = λ e. absurd (omega arith) })) ∙ none a b up low in
      same_four _ _ _ _ 0 0 0 0 (at _ _ (omega arith) (omega arith)) (at _ _ (omega arith) (omega arith)) (at _ _ (omega arith) (omega arith)) (at _ _ (omega arith) (omega arith))

  -- the kids from (x, y) on are none, up to a row
  rest-kids : (bound i j : ℕ) → ((a b : ℕ) → 2 * y + 1 < b → b < bound → number_at south a b ≡ 0) → IsOnward x y i j → 2 * j + 1 < bound → kids_at strips i j ≡ zeros
  rest-kids bound i j none o below = let r = o.row in let c = o.column in
      elim (cases_lt y j) [
        | inl above ↦ gap-kids bound i j none above below
        | inr same ↦ let at : y ≡ j = omega arith in subst (λ j. kids_at strips i j ≡ zeros) at (out-kids i (c at))
      ]

  early_or_onward : (i j : ℕ) → IsEarlier i j x y ⊎ IsOnward x y i j
  early_or_onward i j =
      elim (cases_lt j y) [
        | inl low ↦ inl (record { row = omega arith; column = λ e. absurd (omega arith) })
        | inr up ↦ elim (cases_lt y j) [
          | inl above ↦ inr (record { row = omega arith; column = λ e. absurd (omega arith) })
          | inr same ↦ elim (cases_lt i x) [
            | inl near ↦ inl (record { row = omega arith; column = λ e. near })
            | inr far ↦ inr (record { row = omega arith; column = λ e. far })
          ]
        ]
      ]

  made-rest : (old rows : List SquareRow) (level : ℕ) (made : List Strip) (bound i j : ℕ) → 1 ≤ level → AreMadeTo old rows level strips made x y → ((a b : ℕ) → 2 * y + 1 < b → b < bound → number_at south a b ≡ 0) → 2 * j + 1 < bound
      → IsMade old rows level (number_at made i j) (square_of old (level - 1) (kids_at strips i j))
  made-rest old rows level made bound i j low to none below =
      elim (early_or_onward i j) [
        | inl early ↦ to.each i j early
        | inr onward ↦ made-zeros old rows level (number_at made i j) (kids_at strips i j) low to.keeps (number-gone made x y i j to.before onward) (rest-kids bound i j none onward below)
      ]

  -- the next row that has a strip
  pub made-row : (old rows : List SquareRow) (level : ℕ) (made : List Strip) (f : Strip) → 1 ≤ level → AreMadeTo old rows level strips made x y → Some f ≡ slice_get south 0 → y < f.y / 2 → AreMadeTo old rows level strips made 0 (f.y / 2)
  made-row old rows level made f low to first next = record {
    keeps = to.keeps;
    each = λ i j h. let r = h.row in let c = h.column in
        made-rest old rows level made f.y i j low to (λ a b up down. number-above south f a b first down) (let below : j < f.y / 2 = grind (arith) in omega arith);
    before = all-onward made x y 0 (f.y / 2) to.before (record { row = omega arith; column = λ e. absurd (omega arith) });
  }

  pub row-next : (f : Strip) → Some f ≡ slice_get south 0 → y < f.y / 2
  row-next f first =
      let g = first_some south f first in
      let up : 2 * y + 1 ≤ f.y = (ahead-first f g.0 (2 * x) (2 * y + 1) (subst (λ (l : List Strip). AreAhead l (2 * x) (2 * y + 1)) g.1 ahead_s)).row in
      let other = out_s.other f first in
      let strict : 2 * y + 2 ≤ f.y = elim (cases_lt (2 * y + 1) f.y) [ inl lt ↦ omega arith | inr ge ↦ absurd (other (omega arith)) ] in
      omega arith

  -- no strip is left
  pub made-end : (old rows : List SquareRow) (level : ℕ) (made : List Strip) → 1 ≤ level → AreMadeTo old rows level strips made x y → south ≡ [] → AreMade old rows level strips made
  made-end old rows level made low to empty = record {
    keeps = to.keeps;
    each = λ i j. made-rest old rows level made (2 * j + 2) i j low to (λ a b up down. ap (λ (l : List Strip). number_at l a b) empty ∙ number-none a b) (omega arith);
  }

-- a test has one answer
pub one_answer : (v r : Bool) → v ≡ r → r ≡ true → v ≡ false → ⊥
one_answer v r e t f = cc
