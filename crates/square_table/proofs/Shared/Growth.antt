-- Tables that have more rows than before: what a number stood for it stands for still.
use Rattle.std.proofs.Common.{◌≡◌, ℕ, suc, ◌+◌, ◌-◌, ◌<◌, ◌≤◌, List, [], ◌∷◌, ◌++◌, length, refl, sym, ◌∙◌, ap, subst, arith}
use Rattle.std.proofs.lemmas.List.{append-nil, append_assoc, length_push}
use Rattle.square_table.specs.Squares.{Table, IsNumber, AreNumbers, square_in, square_of, kids_at, first_number, IsSquareOf, Grows, KeepsSquares, with_row, level_of, number_of}
use Rattle.square_table.proofs.Shared.Tables.{IsNumber-more, square_in-more, kept_row, above_zero}

pub Grows-same : (t : Table) → Grows t t
Grows-same t = record { limit = refl; more = []; rows = sym (append-nil t.rows) }

pub Grows-more : (t : Table) (row : List ℕ) → Grows t (with_row t row)
Grows-more t row = record { limit = refl; more = row ∷ []; rows = refl }

pub Grows-then : (t u v : Table) → Grows t u → Grows u v → Grows t v
Grows-then t u v first second = grind (arith, append_assoc)

-- what stays with one more row stays with any more
stays : (P : List (List ℕ) → Type 0) → ((rows : List (List ℕ)) (row : List ℕ) → P rows → P (rows ++ row ∷ [])) → (more rows : List (List ℕ)) → P rows → P (rows ++ more)
stays P one_more [] rows h = subst P (sym (append-nil rows)) h
stays P one_more (row ∷ more) rows h = subst P (append_assoc rows (row ∷ []) more) (stays P one_more more (rows ++ row ∷ []) (one_more rows row h))

-- what stays with one more row stays where a table grows
pub grown : (P : List (List ℕ) → Type 0) → ((rows : List (List ℕ)) (row : List ℕ) → P rows → P (rows ++ row ∷ [])) → (t u : Table) → Grows t u → P t.rows → P u.rows
grown P one_more t u grows h = subst P (sym grows.rows) (stays P one_more grows.more t.rows h)

pub IsNumber-grows : (t u : Table) (k n : ℕ) → Grows t u → IsNumber t.rows k n → IsNumber u.rows k n
IsNumber-grows t u k n grows h = grown (λ rows. IsNumber rows k n) (λ rows row g. IsNumber-more rows row k n g) t u grows h

pub square_in-grows : (t u : Table) (k n : ℕ) → Grows t u → IsNumber t.rows k n → square_in u.rows k n ≡ square_in t.rows k n
square_in-grows t u k n grows h =
    (grown (λ rows. IsNumber rows k n × (square_in rows k n ≡ square_in t.rows k n)) (λ rows row g. (IsNumber-more rows row k n g.0, square_in-more rows row k n g.0 ∙ g.1)) t u grows (h, refl)).1

pub kids_at-grows : (t u : Table) (n : ℕ) → Grows t u → first_number ≤ n → n < first_number + length t.rows → kids_at u.rows n ≡ kids_at t.rows n
kids_at-grows t u n grows above there =
    (grown (λ rows. (n < first_number + length rows) × (kids_at rows n ≡ kids_at t.rows n))
    (λ rows row g. let size = length_push rows row in (
      omega (arith, g.0, size),
      kept_row rows row (n - first_number) (omega (arith, above, g.0))
          ∙ g.1,
    )) t u grows (there, refl)).1

pub AreNumbers-grows : (t u : Table) (k : ℕ) (kids : List ℕ) → Grows t u → AreNumbers t.rows k kids → AreNumbers u.rows k kids
AreNumbers-grows t u k kids grows are = record {
  nw = IsNumber-grows t u k _ grows are.nw;
  ne = IsNumber-grows t u k _ grows are.ne;
  sw = IsNumber-grows t u k _ grows are.sw;
  se = IsNumber-grows t u k _ grows are.se;
}

pub square_of-grows : (t u : Table) (k : ℕ) (kids : List ℕ) → Grows t u → AreNumbers t.rows k kids → square_of u.rows k kids ≡ square_of t.rows k kids
square_of-grows t u k kids grows are = grind (arith, square_in-grows)

pub Keeps-grows : (t u : Table) → Grows t u → KeepsSquares t u
Keeps-grows t u grows = record {
  limit = grows.limit;
  held = λ s h. record {
    numbered = IsNumber-grows t u (level_of s) (number_of s) grows h.numbered;
    quadrants = λ some. let there = above_zero t.rows (level_of s) (number_of s) some h.numbered in h.quadrants some ∙ sym (kids_at-grows t u (number_of s) grows there.0 there.1);
  };
  cells = λ s h. square_in-grows t u (level_of s) (number_of s) grows h.numbered;
}

-- the square whose quadrants are numbers of one level is a number of the next
pub IsNumber-joined : (rows : List (List ℕ)) (k : ℕ) (kids : List ℕ) (n : ℕ) → IsSquareOf rows kids n → AreNumbers rows k kids → IsNumber rows (suc k) n
unfolding IsNumber
IsNumber-joined rows k kids n is are = grind (arith)

pub square_in-joined : (rows : List (List ℕ)) (k : ℕ) (kids : List ℕ) (n : ℕ) → IsSquareOf rows kids n → square_in rows (suc k) n ≡ square_of rows k kids
unfolding square_in
square_in-joined rows k kids n is = ap (square_of rows k) is.listed

-- the quadrants of a square above level 0
pub AreNumbers-quadrants : (rows : List (List ℕ)) (k n : ℕ) → IsNumber rows (suc k) n → AreNumbers rows k (kids_at rows n)
unfolding IsNumber
AreNumbers-quadrants rows k n h = record { nw = h.2; ne = h.3; sw = h.4; se = h.5 }

pub square_in-quadrants : (rows : List (List ℕ)) (k n : ℕ) → square_in rows (suc k) n ≡ square_of rows k (kids_at rows n)
unfolding square_in
square_in-quadrants rows k n = refl
