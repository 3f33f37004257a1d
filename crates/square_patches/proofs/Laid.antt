-- Squares of a table with a quadtree laid on them.
use Rattle.square_patches.proofs.Names.{AreLaidAs, AreNumbers, Cells, Grows, HasLevel, IfOk, IsLaidAs, IsSquareOf, List, None, Quadtree, Result, Square, Table, [], ap, ap₂, arith, at, cell, cond, false, first_number, four, get_or}
use Rattle.square_patches.proofs.Names.{in_quadrant, ints, keep, kids_at, laid, length, lit<, nat_lt, one, pos, quad, square_of, state_at, subst, suc, sym, true, unwrap_or, zero, ℕ, ℤ, ◌+ℤ◌, ◌+◌, ◌-◌, ◌<◌, ◌^◌, ◌∙◌, ◌∷◌, ◌≡◌}
use Rattle.std.proofs.Common.{get_or-set_same, get_or-set_other}
use Rattle.std.proofs.lemmas.Bool.Decides.{nat_tests}
use Rattle.std.proofs.Math.Nat.{pow-suc}
use Rattle.std.proofs.Math.ListN.{set}
use Rattle.worlds.specs.Square.{IsSquare}
use Rattle.square_table.specs.Squares.{IsNumber, square_in}
use Rattle.square_patches.specs.Laying.{laid_at}
use Rattle.square_table.proofs.Shared.Growth.{Grows-same, Grows-then, IsNumber-grows, square_in-grows, AreNumbers-grows, square_of-grows, IsNumber-joined, square_in-joined, AreNumbers-quadrants, square_in-quadrants}
use Rattle.square_table.proofs.Shared.Numbers.{IsNumber-state, square_in-cell}

-- nothing is said of the cells of a square
abbrev SaysNone : Cells → ℕ → ℤ → ℤ → Type 0
SaysNone c k x y = (u v : ℕ) → u < 2 ^ k → v < 2 ^ k → state_at c (x +ℤ pos u) (y +ℤ pos v) ≡ None

-- the quadtree says of the cells of a square what is said of them
abbrev Says : Cells → ℕ → ℤ → ℤ → Quadtree → Type 0
Says c k x y t = (u v : ℕ) → u < 2 ^ k → v < 2 ^ k → at t k u v ≡ state_at c (x +ℤ pos u) (y +ℤ pos v)

here : (c : Cells) (x y : ℤ) → state_at c (x +ℤ pos 0) (y +ℤ pos 0) ≡ state_at c x y
here c x y = grind (arith)

-- a cell of a quadrant as one of the square
moved : (z : ℤ) (m u : ℕ) → ((z +ℤ pos m) +ℤ pos u) ≡ (z +ℤ pos (m + u))
moved z m u = omega (arith, ints)

module _ (k : ℕ) where
  wide : 2 ^ (suc k) ≡ 2 ^ k + 2 ^ k
  wide = rw pow-suc (omega arith)

  near : (u : ℕ) → u < 2 ^ k → u < 2 ^ (suc k)
  near u h = omega (arith, wide, h)

  far : (u : ℕ) → u < 2 ^ k → 2 ^ k + u < 2 ^ (suc k)
  far u h = omega (arith, wide, h)

-- where nothing is said, the square is as it was
laid-none : (c : Cells) (k : ℕ) (x y : ℤ) (s : Square) → IsSquare k s → SaysNone c k x y → laid_at c k x y s ≡ s
unfolding IsSquare laid_at
laid-none c zero x y (one s) h none = ap (λ o. one (unwrap_or o s)) (sym (here c x y) ∙ none 0 0 (lit< tt) (lit< tt))
laid-none c zero x y (four nw ne sw se) h none = absurd h
laid-none c (suc k) x y (one s) h none = absurd h
laid-none c (suc k) x y (four nw ne sw se) h none =
    let m = 2 ^ k in
    let a = laid-none c k x y nw h.0 (λ u v p q. none u v (near k u p) (near k v q)) in
    let b = laid-none c k (x +ℤ pos m) y ne h.1 (λ u v p q. ap (λ z. state_at c z (y +ℤ pos v)) (moved x m u) ∙ none (m + u) v (far k u p) (near k v q)) in
    let d = laid-none c k x (y +ℤ pos m) sw h.2 (λ u v p q. ap (λ z. state_at c (x +ℤ pos u) z) (moved y m v) ∙ none u (m + v) (near k u p) (far k v q)) in
    let e = laid-none c k (x +ℤ pos m) (y +ℤ pos m) se h.3 (λ u v p q. ap₂ (state_at c) (moved x m u) (moved y m v) ∙ none (m + u) (m + v) (far k u p) (far k v q)) in
    λ i. four (a i) (b i) (d i) (e i)

-- what a quadtree says of a cell in each of its quadrants
module _ (a b c d : Quadtree) (k : ℕ) where
  one_less : suc k - 1 ≡ k
  one_less = omega arith

  pick : (s e : _) (u v : ℕ) → nat_lt v (2 ^ k) ≡ s → nat_lt u (2 ^ k) ≡ e → at (quad a b c d) (suc k) u v
      ≡ cond s (cond e (at a k u v) (at b k (u - 2 ^ k) v)) (cond e (at c k u (v - 2 ^ k)) (at d k (u - 2 ^ k) (v - 2 ^ k)))
  pick s e u v p q = rw one_less (ap₂ (λ s e. cond s (cond e (at a k u v) (at b k (u - 2 ^ k) v)) (cond e (at c k u (v - 2 ^ k)) (at d k (u - 2 ^ k) (v - 2 ^ k)))) p q)

  inside : (u : ℕ) → u < 2 ^ k → nat_lt u (2 ^ k) ≡ true
  inside u h = grind (arith, nat_tests, h)

  beyond : (u : ℕ) → nat_lt (2 ^ k + u) (2 ^ k) ≡ false
  beyond u = grind (arith, nat_tests)

  back : (u : ℕ) → 2 ^ k + u - 2 ^ k ≡ u
  back u = omega arith

  at-nw : (u v : ℕ) → u < 2 ^ k → v < 2 ^ k → at (quad a b c d) (suc k) u v ≡ at a k u v
  at-nw u v p q = pick true true u v (inside v q) (inside u p)

  at-ne : (u v : ℕ) → v < 2 ^ k → at (quad a b c d) (suc k) (2 ^ k + u) v ≡ at b k u v
  at-ne u v q = pick true false (2 ^ k + u) v (inside v q) (beyond u) ∙ ap (λ z. at b k z v) (back u)

  at-sw : (u v : ℕ) → u < 2 ^ k → at (quad a b c d) (suc k) u (2 ^ k + v) ≡ at c k u v
  at-sw u v p = pick false true u (2 ^ k + v) (beyond v) (inside u p) ∙ ap (at c k u) (back v)

  at-se : (u v : ℕ) → at (quad a b c d) (suc k) (2 ^ k + u) (2 ^ k + v) ≡ at d k u v
  at-se u v = pick false false (2 ^ k + u) (2 ^ k + v) (beyond v) (beyond u) ∙ ap₂ (at d k) (back u) (back v)

  levels : HasLevel (suc k) (quad a b c d) → HasLevel k a × HasLevel k b × HasLevel k c × HasLevel k d
  levels h = subst (λ j. HasLevel j a × HasLevel j b × HasLevel j c × HasLevel j d) one_less (h.1, h.2, h.3, h.4)

-- a square on which is laid what a quadtree says
pub laid-says : (c : Cells) (k : ℕ) (x y : ℤ) (t : Quadtree) (s : Square) → IsSquare k s → HasLevel k t → Says c k x y t → laid_at c k x y s ≡ laid t s
unfolding IsSquare laid_at
laid-says c k x y keep s h level says = laid-none c k x y s h (λ u v p q. sym (says u v p q))
laid-says c zero x y (cell w) (one s) h level says = ap (λ o. one (unwrap_or o s)) (sym (here c x y) ∙ sym (says 0 0 (lit< tt) (lit< tt)))
laid-says c zero x y (cell w) (four nw ne sw se) h level says = absurd h
laid-says c (suc k) x y (cell w) s h level says = absurd (omega (arith, level))
laid-says c zero x y (quad t0 t1 t2 t3) s h level says = absurd (omega (arith, level.0))
laid-says c (suc k) x y (quad t0 t1 t2 t3) (one s) h level says = absurd h
laid-says c (suc k) x y (quad t0 t1 t2 t3) (four nw ne sw se) h level says =
    let m = 2 ^ k in
    let under = levels t0 t1 t2 t3 k level in
    let a = laid-says c k x y t0 nw h.0 under.0 (λ u v p q. sym (at-nw t0 t1 t2 t3 k u v p q) ∙ says u v (near k u p) (near k v q)) in
    let b = laid-says c k (x +ℤ pos m) y t1 ne h.1 under.1 (λ u v p q. sym (at-ne t0 t1 t2 t3 k u v q) ∙ says (m + u) v (far k u p) (near k v q) ∙ ap (λ z. state_at c z (y +ℤ pos v)) (sym (moved x m u))) in
    let d = laid-says c k x (y +ℤ pos m) t2 sw h.2 under.2 (λ u v p q. sym (at-sw t0 t1 t2 t3 k u v p) ∙ says u (m + v) (near k u p) (far k v q) ∙ ap (λ z. state_at c (x +ℤ pos u) z) (sym (moved y m v))) in
    let e = laid-says c k (x +ℤ pos m) (y +ℤ pos m) t3 se h.3 under.3 (λ u v p q. sym (at-se t0 t1 t2 t3 k u v) ∙ says (m + u) (m + v) (far k u p) (far k v q) ∙ ap₂ (state_at c) (sym (moved x m u)) (sym (moved y m v))) in
    λ i. four (a i) (b i) (d i) (e i)

-- the state of a cell is its number
pub laid-cell : (old new : List (List ℕ)) (k m s : ℕ) → k ≡ 0 → s < first_number → IsLaidAs (cell s) old k m new s
laid-cell old new k m s e h = grind (arith, IsNumber-state, square_in-cell)

-- four numbers of a level
pub number_at : (rows : List (List ℕ)) (k : ℕ) (kids : List ℕ) (q : ℕ) → q < 4 → AreNumbers rows k kids → IsNumber rows k (get_or kids q 0)
number_at q0 q1 q2 q3 q4 q5 = grind (arith)

-- the numbers of the quadrants
pub quadrants_of : (rows : List (List ℕ)) (k j n : ℕ) (kids : List ℕ) → k ≡ suc j → IsNumber rows k n → kids ≡ kids_at rows n → AreNumbers rows j kids
quadrants_of rows k j n kids e h is = subst (AreNumbers rows j) (sym is) (AreNumbers-quadrants rows j n (subst (λ l. IsNumber rows l n) e h))

-- quadrants on which a quadtree is laid are those of the square on which it is laid
pub laid-joined : (t : Quadtree) (old new last : Table) (k j m n : ℕ) (kids all : List ℕ) → k ≡ suc j → kids ≡ kids_at old.rows m
    → AreLaidAs t old.rows j kids new.rows all → Grows new last → IsSquareOf last.rows all n → IsLaidAs t old.rows k m last.rows n
laid-joined t old new last k j m n kids all e is are grows joined =
    let numbers = AreNumbers-grows new last j all grows are.numbers in
    let found : square_in last.rows (suc j) n ≡ laid t (square_in old.rows (suc j) m) =
    square_in-joined last.rows j all n joined ∙ square_of-grows new last j all grows are.numbers ∙ are.squares
    ∙ ap (λ ks. laid t (square_of old.rows j ks)) is ∙ ap (laid t) (sym (square_in-quadrants old.rows j m)) in
    subst (λ l. IsLaidAs t old.rows l m last.rows n) (sym e) (record { number = IsNumber-joined last.rows j all n joined numbers; square = found })

-- what is laid on a square stays, where the table grows before and behind
pub laid-between : (t : Quadtree) (first old new last : Table) (k m n : ℕ) → Grows first old → IsNumber first.rows k m → IsLaidAs t old.rows k m new.rows n → Grows new last → IsLaidAs t first.rows k m last.rows n
laid-between t first old new last k m n before h is behind = record {
  number = IsNumber-grows new last k n behind is.number;
  square = square_in-grows new last k n behind is.number ∙ is.square ∙ ap (laid t) (square_in-grows first old k m before h);
}

-- where nothing is laid, the square stays
pub laid-keep : (old new : Table) (k n : ℕ) → Grows old new → IsNumber old.rows k n → IsLaidAs keep old.rows k n new.rows n
laid-keep old new k n grows h = record { number = IsNumber-grows old new k n grows h; square = square_in-grows old new k n grows h }

-- four squares on each of which a quadtree is laid
pub laid-four : (a b c d : Quadtree) (old new : List (List ℕ)) (k : ℕ) (kids all : List ℕ)
    → IsLaidAs a old k (get_or kids 0 0) new (get_or all 0 0) → IsLaidAs b old k (get_or kids 1 0) new (get_or all 1 0)
    → IsLaidAs c old k (get_or kids 2 0) new (get_or all 2 0) → IsLaidAs d old k (get_or kids 3 0) new (get_or all 3 0) → AreLaidAs (quad a b c d) old k kids new all
laid-four a b c d old new k kids all p q r s = grind (arith)

-- a quadtree laid on one of four squares
pub laid-quadrant : (t : Quadtree) (old new : Table) (k q n : ℕ) (kids : List ℕ) → q < 4 → length kids ≡ 4 → AreNumbers old.rows k kids → Grows old new
    → IsLaidAs t old.rows k (get_or kids q 0) new.rows n → AreLaidAs (in_quadrant q t) old.rows k kids new.rows (set kids q n)
laid-quadrant t old new k q n kids few size are grows is =
    let this : IsLaidAs t old.rows k (get_or kids q 0) new.rows (get_or (set kids q n) q 0) =
    subst (IsLaidAs t old.rows k (get_or kids q 0) new.rows) (sym (get_or-set_same kids q n 0 (omega (arith, few, size)))) is in
    let other : (p : ℕ) → (p ≡ q → ⊥) → IsNumber old.rows k (get_or kids p 0) → IsLaidAs keep old.rows k (get_or kids p 0) new.rows (get_or (set kids q n) p 0) =
    λ p apart h. subst (IsLaidAs keep old.rows k (get_or kids p 0) new.rows) (sym (get_or-set_other kids q p n 0 apart)) (laid-keep old new k (get_or kids p 0) grows h) in
    at_quadrant q this other few
  where
    Other : ℕ → Type 0
    Other r = (p : ℕ) → (p ≡ r → ⊥) → IsNumber old.rows k (get_or kids p 0) → IsLaidAs keep old.rows k (get_or kids p 0) new.rows (get_or (set kids r n) p 0)

    at_quadrant : (r : ℕ) → IsLaidAs t old.rows k (get_or kids r 0) new.rows (get_or (set kids r n) r 0) → Other r → r < 4 → AreLaidAs (in_quadrant r t) old.rows k kids new.rows (set kids r n)
    at_quadrant zero this other few = laid-four t keep keep keep old.rows new.rows k kids (set kids 0 n) this (other 1 (λ e. omega (arith, e)) are.ne) (other 2 (λ e. omega (arith, e)) are.sw) (other 3 (λ e. omega (arith, e)) are.se)
    at_quadrant (suc zero) this other few = laid-four keep t keep keep old.rows new.rows k kids (set kids 1 n) (other 0 (λ e. omega (arith, e)) are.nw) this (other 2 (λ e. omega (arith, e)) are.sw) (other 3 (λ e. omega (arith, e)) are.se)
    at_quadrant (suc (suc zero)) this other few = laid-four keep keep t keep old.rows new.rows k kids (set kids 2 n)
        (other 0 (λ e. omega (arith, e)) are.nw) (other 1 (λ e. omega (arith, e)) are.ne) this (other 3 (λ e. omega (arith, e)) are.se)
    at_quadrant (suc (suc (suc zero))) this other few = laid-four keep keep keep t old.rows new.rows k kids (set kids 3 n)
        (other 0 (λ e. omega (arith, e)) are.nw) (other 1 (λ e. omega (arith, e)) are.ne) (other 2 (λ e. omega (arith, e)) are.sw) this
    at_quadrant (suc (suc (suc (suc r)))) this other few = absurd (omega (arith, few))

-- four quadtrees laid one after the other
pub in_turn : (a b c d : Quadtree) (t0 t1 t2 t3 t4 : Table) (k : ℕ) (kids : List ℕ) (nw ne sw se : ℕ) → AreNumbers t0.rows k kids → Grows t0 t1 → Grows t1 t2 → Grows t2 t3 → Grows t3 t4
    → IsLaidAs a t0.rows k (get_or kids 0 0) t1.rows nw → IsLaidAs b t1.rows k (get_or kids 1 0) t2.rows ne
    → IsLaidAs c t2.rows k (get_or kids 2 0) t3.rows sw → IsLaidAs d t3.rows k (get_or kids 3 0) t4.rows se
    → AreLaidAs (quad a b c d) t0.rows k kids t4.rows (nw ∷ ne ∷ sw ∷ se ∷ [])
in_turn a b c d t0 t1 t2 t3 t4 k kids nw ne sw se are g1 g2 g3 g4 p q r s =
    let g02 = Grows-then t0 t1 t2 g1 g2 in
    let g03 = Grows-then t0 t2 t3 g02 g3 in
    let g24 = Grows-then t2 t3 t4 g3 g4 in
    let g14 = Grows-then t1 t2 t4 g2 g24 in
    laid-four a b c d t0.rows t4.rows k kids (nw ∷ ne ∷ sw ∷ se ∷ [])
    (laid-between a t0 t0 t1 t4 k (get_or kids 0 0) nw (Grows-same t0) are.nw p g14)
    (laid-between b t0 t1 t2 t4 k (get_or kids 1 0) ne g1 are.ne q g24)
    (laid-between c t0 t2 t3 t4 k (get_or kids 2 0) sw g02 are.sw r g4)
    (laid-between d t0 t3 t4 t4 k (get_or kids 3 0) se g03 are.se s (Grows-same t4))

-- the square that is joined of them
pub joined-laid : {E : Type 0} (r : Result ℕ E) (t u : Quadtree) (old new last : Table) (k m : ℕ) (kids all : List ℕ) → 0 < k → u ≡ t → kids ≡ kids_at old.rows m → AreLaidAs t old.rows (k - 1) kids new.rows all → Grows new last
    → IfOk r (IsSquareOf last.rows all) → IfOk r (IsLaidAs u old.rows k m last.rows)
joined-laid q0 q1 q2 q3 q4 q5 q6 q7 q8 q9 q10 q11 q12 q13 q14 q15 = grind (arith, laid-joined)

-- a cell of the level of a square is laid on all of it
pub laid-state : (t : Quadtree) (old new : List (List ℕ)) (k m s : ℕ) → t ≡ cell s → HasLevel k t → s < first_number → IsLaidAs t old k m new s
laid-state t old new k m s same level h = subst (λ v. IsLaidAs v old k m new s) (sym same) (laid-cell old new k m s (subst (HasLevel k) same level) h)
