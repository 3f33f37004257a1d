-- Rows that are of given squares, where a table grows, and the different squares that they are.
use Rattle.square_table.proofs.Names.{Adds, AreAmong, AreFour, AreNumbers, Contains, Grows, GrowsBy, IsAmong, IsMade, IsSquareOf, List, Square, Table, [], ap, arith, cases_lt, first_number, get_or, get_or-map, inl, inr, joined, kid_at}
use Rattle.square_table.proofs.Names.{length, length_push, map, number_of, refl, slice_index_or, square_of, subst, suc, sym, with_row, zero, ℕ, ◌+◌, ◌<◌, ◌∙◌, ◌∷◌, ◌≡◌}
use Rattle.std.proofs.lemmas.List.Elements.{All-head}
use Rattle.square_table.specs.Squares.{IsNumber, square_in}
use Rattle.square_table.specs.declared.square.Square as handle
use Rattle.square_table.specs.Made.{HoldsWithin}
use Rattle.square_table.proofs.Shared.Tables.{last_row}
use Rattle.square_table.proofs.Shared.Growth.{AreNumbers-grows, IsNumber-grows, IsNumber-joined, square_in-grows, square_in-joined, square_of-grows}

IsAmong-grows : (all : List Square) (t u : Table) (n : ℕ) → Grows t u → IsAmong all t.rows n → IsAmong all u.rows n
IsAmong-grows all t u n grows is = record {
  level = is.level;
  numbered = IsNumber-grows t u (suc is.level) n grows is.numbered;
  listed = subst (Contains all) (sym (square_in-grows t u (suc is.level) n grows is.numbered)) is.listed;
}

-- a square that is made stays
pub IsMade-grows : (t u : Table) (s : Square) → Grows t u → IsMade t.rows s → IsMade u.rows s
IsMade-grows t u s grows is = record {
  level = is.level;
  number = is.number;
  numbered = IsNumber-grows t u (suc is.level) is.number grows is.numbered;
  square = square_in-grows t u (suc is.level) is.number grows is.numbered ∙ is.square;
}

-- with a square all is made that it is made of
pub within-made : (P : Square → Type 0) (rows : List (List ℕ)) → ((s : Square) → IsMade rows s → P s) → (k n : ℕ) → IsNumber rows k n → HoldsWithin P (square_in rows k n)
unfolding IsNumber square_in HoldsWithin
within-made P rows so zero n is = tt
within-made P rows so (suc k) n is = (
  so _ (record { level = k; number = n; numbered = is; square = refl }),
  within-made P rows so k (kid_at rows n 0) is.2,
  within-made P rows so k (kid_at rows n 1) is.3,
  within-made P rows so k (kid_at rows n 2) is.4,
  within-made P rows so k (kid_at rows n 3) is.5,
)

-- the row that is added
added : (t : Table) (kids : List ℕ) (i : ℕ) → i ≡ length t.rows → IsSquareOf (with_row t kids).rows kids (first_number + i)
added t kids i last = grind (arith, length_push, last_row)

-- the notes are the same where a row is added, or none
pub notes_joined : {t u : Table} (kids : List ℕ) → GrowsBy kids t u → u.notes ≡ t.notes
notes_joined kids step = elim step [
  | inl same ↦ ap (λ (v : Table). v.notes) same
  | inr more ↦ ap (λ (v : Table). v.notes) more
]

-- one row more, or none
pub AreAmong-joined : (all : List Square) (t u : Table) (kids : List ℕ) → Grows t u → GrowsBy kids t u → ((n : ℕ) → IsSquareOf u.rows kids n → IsAmong all u.rows n) → AreAmong all t.rows → AreAmong all u.rows
AreAmong-joined all t u kids grows step made are = elim step [
  | inl same ↦ subst (λ (v : Table). AreAmong all v.rows) (sym same) are
  | inr more ↦ record {
    each = λ i below. elim (cases_lt i (length t.rows)) [
      | inl before ↦ IsAmong-grows all t u (first_number + i) grows (are.each i before)
      | inr after ↦
          let last : i ≡ length t.rows = omega (arith, below, after, ap (λ (v : Table). length v.rows) more, length_push t.rows kids) in
          made (first_number + i) (subst (λ (v : Table). IsSquareOf v.rows kids (first_number + i)) (sym more) (added t kids i last))
    ];
  }
]

-- n is the number of the square s of level k + 1
pub record IsFor (rows : List (List ℕ)) (k n : ℕ) (s : Square) : Type 0 where
  pub numbered : IsNumber rows (suc k) n
  pub square : square_in rows (suc k) n ≡ s

-- the number of the square of four quadrants, where the table grew
pub IsFor-joined : (t u : Table) (k n : ℕ) (kids : List ℕ) → AreNumbers t.rows k kids → Grows t u → IsSquareOf u.rows kids n → IsFor u.rows k n (square_of t.rows k kids)
IsFor-joined t u k n kids are grows is = record {
  numbered = IsNumber-joined u.rows k kids n is (AreNumbers-grows t u k kids grows are);
  square = square_in-joined u.rows k kids n is ∙ square_of-grows t u k kids grows are;
}

pub IsAmong-for : (all : List Square) (rows : List (List ℕ)) (k n : ℕ) (s : Square) → IsFor rows k n s → Contains all s → IsAmong all rows n
IsAmong-for all rows k n s is listed = record { level = k; numbered = is.numbered; listed = subst (Contains all) (sym is.square) listed }

-- the square of four quadrants is all that is added
pub Adds-joined : (t u : Table) (kids : List ℕ) (k : ℕ) (s : Square) → Grows t u → GrowsBy kids t u → ((n : ℕ) → IsSquareOf u.rows kids n → IsFor u.rows k n s) → Adds (s ∷ []) t u
Adds-joined t u kids k s grows step known = record {
  grows = grows;
  notes = notes_joined kids step;
  among = λ all made are. AreAmong-joined all t u kids grows step (λ n is. IsAmong-for all u.rows k n s (known n is) (All-head (Contains all) s [] made)) are;
}

-- four squares of a table, by their numbers
module _ (t : Table) (level : ℕ) (quadrants : List handle.Square) (d : handle.Square) (size : length quadrants ≡ 4) (are : AreFour t level quadrants) where
  number : (q : ℕ) → q < 4 → get_or (map number_of quadrants) q 0 ≡ number_of (slice_index_or quadrants q d)
  number q h = get_or-map number_of quadrants q d 0 (omega (arith, size, h))

  pub four_numbers : AreNumbers t.rows level (map number_of quadrants)
  four_numbers = grind (arith, number)

  pub four_cells : square_of t.rows level (map number_of quadrants) ≡ joined t (λ q. slice_index_or quadrants q d)
  four_cells = grind (arith, number, are.alike)
