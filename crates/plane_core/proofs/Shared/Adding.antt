-- Rows that come behind others, and the root of one level more.
use Rattle.plane_core.proofs.Names.{AreQuadrants, AreRows, IfOk, IfOk-weaker, IsAdded, IsNumber, IsRaised, IsRow, Keeps, List, Result, Square, SquareRow, [], arith, centred, cornered, four, get_or, get_or_push, kid, length, length_push}
use Rattle.plane_core.proofs.Names.{refl, root_level, row_at, slice_set, square_in, square_of, subst, suc, sym, zero, ℕ, ◌++◌, ◌+◌, ◌-◌, ◌<◌, ◌^◌, ◌∷◌, ◌≡◌, ◌≤◌}
use Rattle.worlds.specs.Square.{empty_square}
use Rattle.plane_core.proofs.Shared.Numbering.{Grows, Grows-more}
use Rattle.plane_core.proofs.Shared.Sound.{IsNumber-level, IsNumber-from, IsNumber-grown, Grows-length, square_in-none, square_in-row, square_in-grown, AreRows-push, zero-IsNumber, number-kid}
use Rattle.plane_core.proofs.Shared.Roots.{root_level-some, square_in-IsSquare}
use Rattle.plane_core.proofs.Shared.Tidy.{world-put}
use Rattle.plane_core.proofs.Shared.Centring.{centred-world}

pub Keeps-none : (rows : List SquareRow) → AreRows rows → length rows < 2 ^ 32 → Keeps rows rows
Keeps-none rows valid few = record { valid = valid; few = few; longer = omega arith; number = λ k n h. h; square = λ k n h. refl }

pub Keeps-then : (a b c : List SquareRow) → Keeps a b → Keeps b c → Keeps a c
Keeps-then a b c f g = grind (arith)

pub Keeps-grown : (old new : List SquareRow) → Grows old new → AreRows old → AreRows new → length new < 2 ^ 32 → Keeps old new
Keeps-grown old new g valid fits few = record { valid = fits; few = few; longer = Grows-length old new g; number = λ k n h. IsNumber-grown old new k n g h; square = λ k n h. square_in-grown old new k n g valid h }

-- the square of numbers stays
pub square_of-kept : (old new : List SquareRow) (k : ℕ) (kids : List ℕ) → Keeps old new → ((q : ℕ) → q < 4 → IsNumber old k (get_or kids q 0)) → square_of new k kids ≡ square_of old k kids
square_of-kept old new k kids keeps h = grind (arith)

module _ (rows : List SquareRow) (row : SquareRow) (k : ℕ) (valid : AreRows rows) (fits : IsRow rows row) (level : row.level ≡ suc k) (room : length rows + 1 < 2 ^ 32) where
  keeps_pushed : Keeps rows (rows ++ row ∷ [])
  keeps_pushed = Keeps-grown rows (rows ++ row ∷ []) (Grows-more rows (row ∷ [])) valid (AreRows-push rows row valid fits) (omega (arith, length_push rows row, room))

  kid_before : (q : ℕ) → q < 4 → IsNumber rows k (kid row q)
  kid_before q hq = let less : row.level - 1 ≡ k = omega (arith, level) in subst (λ m. IsNumber rows m (kid row q)) less (fits.kids q hq)

  added_suc : IsAdded rows (rows ++ row ∷ []) (suc k) (length (rows ++ row ∷ [])) (square_of rows k row.kids)
  added_suc =
      let all = rows ++ row ∷ [] in
      let count : length all ≡ suc (length rows) = omega (arith, length_push rows row) in
      grind (arith, get_or_push, keeps_pushed, IsNumber-from, square_in-row, square_of-kept, kid_before)

level_suc : (k : ℕ) → 1 ≤ k → k ≡ suc (k - 1)
level_suc k h = omega (arith, h)

-- the row that is pushed
pub added : (rows new : List SquareRow) (row : SquareRow) (n : ℕ) → AreRows rows → IsRow rows row → length rows + 1 < 2 ^ 32 → new ≡ rows ++ row ∷ [] → n ≡ length new
    → IsAdded rows new row.level n (square_of rows (row.level - 1) row.kids)
added rows new row n valid fits room is count =
    let level : row.level ≡ suc (row.level - 1) = level_suc row.level fits.low in
    subst (λ m. IsAdded rows new row.level m (square_of rows (row.level - 1) row.kids)) (sym count)
    (subst (λ (rs : List SquareRow). IsAdded rows rs row.level (length rs) (square_of rows (row.level - 1) row.kids)) (sym is)
    (subst (λ m. IsAdded rows (rows ++ row ∷ []) m (length (rows ++ row ∷ [])) (square_of rows (row.level - 1) row.kids)) (sym level)
    (added_suc rows row (row.level - 1) valid fits level room)))

empty_square-quadrants : (k : ℕ) → empty_square (suc k) ≡ four (empty_square k) (empty_square k) (empty_square k) (empty_square k)
unfolding empty_square
empty_square-quadrants k = refl

zeros : (rows : List SquareRow) (k q : ℕ) → q < 4 → IsNumber rows k (get_or (0 ∷ 0 ∷ 0 ∷ 0 ∷ []) q 0)
zeros rows k q h = grind (arith, zero-IsNumber)

-- the quadrants of an empty square
pub quadrants-none : (rows : List SquareRow) (k : ℕ) → AreQuadrants rows k 0 (0 ∷ 0 ∷ 0 ∷ 0 ∷ [])
quadrants-none rows k = record {
  numbers = zeros rows k;
  square = grind (arith, square_in-none, empty_square-quadrants);
}

-- the quadrants of another
pub quadrants-row : (rows : List SquareRow) (level n : ℕ) → AreRows rows → 1 ≤ level → 0 < n → IsNumber rows level n → AreQuadrants rows (level - 1) n (row_at rows n).kids
quadrants-row rows zero n valid low some h = absurd (omega (arith, low))
quadrants-row rows level zero valid low some h = absurd (omega (arith, some))
quadrants-row rows (suc k) (suc i) valid low some h = grind (arith, square_in-row, number-kid)

-- the kids of a square with one quadrant, at its corner
pub record AreCornerKids (rows : List SquareRow) (k corner n : ℕ) (kids : List ℕ) : Type 0 where
  pub numbers : (q : ℕ) → q < 4 → IsNumber rows k (get_or kids q 0)
  pub square : square_of rows k kids ≡ cornered k corner (square_in rows k n)

-- where a root is added
pub root_added : (old new : List SquareRow) (k n : ℕ) (s : Square) → IsAdded old new (suc k) n s → (root_level new ≡ suc k) × (square_in new (suc k) (length new) ≡ s)
root_added old new k n s a = grind (arith, root_level-some, IsNumber-level)

module _ (rows r1 r2 r3 r4 r5 : List SquareRow) (k : ℕ) (kids : List ℕ) (nw ne sw se n : ℕ) (valid : AreRows rows) (level : root_level rows ≡ suc k) (parts : AreQuadrants rows k (length rows) kids)
    (a1 : IsAdded rows r1 (suc k) nw (cornered k 3 (square_in rows k (get_or kids 0 0)))) (a2 : IsAdded r1 r2 (suc k) ne (cornered k 2 (square_in r1 k (get_or kids 1 0))))
    (a3 : IsAdded r2 r3 (suc k) sw (cornered k 1 (square_in r2 k (get_or kids 2 0)))) (a4 : IsAdded r3 r4 (suc k) se (cornered k 0 (square_in r3 k (get_or kids 3 0))))
    (a5 : IsAdded r4 r5 (suc (suc k)) n (square_of r4 (suc k) (nw ∷ ne ∷ sw ∷ se ∷ []))) where
  to_two : Keeps rows r2
  to_two = Keeps-then rows r1 r2 a1.keeps a2.keeps

  to_three : Keeps rows r3
  to_three = Keeps-then rows r2 r3 to_two a3.keeps

  raised_square : square_of r4 (suc k) (nw ∷ ne ∷ sw ∷ se ∷ []) ≡ centred k (square_in rows k (get_or kids 0 0)) (square_in rows k (get_or kids 1 0)) (square_in rows k (get_or kids 2 0)) (square_in rows k (get_or kids 3 0))
  raised_square = grind (arith, to_three)

  is_raised : IsRaised rows r5
  is_raised =
      let root = root_added r4 r5 (suc k) n (square_of r4 (suc k) (nw ∷ ne ∷ sw ∷ se ∷ [])) a5 in
      grind (arith, square_in-IsSquare, world-put, raised_square, centred-world)

-- the root after four squares at corners and the one of those
pub raised : (rows r1 r2 r3 r4 r5 : List SquareRow) (level : ℕ) (kids : List ℕ) (nw ne sw se n : ℕ) → AreRows rows → 1 ≤ level → level ≡ root_level rows → AreQuadrants rows (level - 1) (length rows) kids
    → IsAdded rows r1 level nw (cornered (level - 1) 3 (square_in rows (level - 1) (get_or kids 0 0))) → IsAdded r1 r2 level ne (cornered (level - 1) 2 (square_in r1 (level - 1) (get_or kids 1 0)))
    → IsAdded r2 r3 level sw (cornered (level - 1) 1 (square_in r2 (level - 1) (get_or kids 2 0))) → IsAdded r3 r4 level se (cornered (level - 1) 0 (square_in r3 (level - 1) (get_or kids 3 0)))
    → IsAdded r4 r5 (level + 1) n (square_of r4 ((level + 1) - 1) (nw ∷ ne ∷ sw ∷ se ∷ [])) → IsRaised rows r5
raised rows r1 r2 r3 r4 r5 zero kids nw ne sw se n valid low is parts a1 a2 a3 a4 a5 = absurd (omega (arith, low))
raised rows r1 r2 r3 r4 r5 (suc k) kids nw ne sw se n valid low is parts a1 a2 a3 a4 a5 =
    let less : suc k - 1 ≡ k = omega arith in
    let more : suc k + 1 ≡ suc (suc k) = omega arith in
    let less_two : suc (suc k) - 1 ≡ suc k = omega arith in
    is_raised rows r1 r2 r3 r4 r5 k kids nw ne sw se n valid (sym is)
    (subst (λ j. AreQuadrants rows j (length rows) kids) less parts)
    (subst (λ j. IsAdded rows r1 (suc k) nw (cornered j 3 (square_in rows j (get_or kids 0 0)))) less a1)
    (subst (λ j. IsAdded r1 r2 (suc k) ne (cornered j 2 (square_in r1 j (get_or kids 1 0)))) less a2)
    (subst (λ j. IsAdded r2 r3 (suc k) sw (cornered j 1 (square_in r2 j (get_or kids 2 0)))) less a3)
    (subst (λ j. IsAdded r3 r4 (suc k) se (cornered j 0 (square_in r3 j (get_or kids 3 0)))) less a4)
    (subst (λ j. IsAdded r4 r5 (suc (suc k)) n (square_of r4 j (nw ∷ ne ∷ sw ∷ se ∷ []))) less_two
    (subst (λ j. IsAdded r4 r5 j n (square_of r4 (j - 1) (nw ∷ ne ∷ sw ∷ se ∷ []))) more a5))

-- the kids of the square that has one quadrant, at its corner
pub corner_kids : (rows : List SquareRow) (k corner n : ℕ) → IsNumber rows k n → corner < 4 → AreCornerKids rows k corner n (slice_set (0 ∷ 0 ∷ 0 ∷ 0 ∷ []) corner n)
corner_kids rows k corner n h hc = grind (arith, zero-IsNumber, square_in-none)

-- what follows from what holds of the value follows of it
pub IfOk_then : {T E : Type 0} (r : Result T E) (P Q : T → Type 0) → ((t : T) → P t → Q t) → IfOk r P → IfOk r Q
IfOk_then = IfOk-weaker
