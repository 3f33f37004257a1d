-- The cells of a bitmap, by the line that it was read from.
use Rattle.macrocell_lines.proofs.Names.{BitmapsShowTheirLines, Bool, List, None, Option, Some, [], ap, arith, cond, differs, div-div-eq-div-mul, false, is_cell, length, list_all, nat_le, option_map, pieces, pow-succ', refl, replicate}
use Rattle.macrocell_lines.proofs.Names.{row_bits, row_of, rows_of, slice_index, slice_index_or, suc, sym, true, zero, zero-div, ℕ, ◌%◌, ◌&&◌, ◌*◌, ◌+◌, ◌/◌, ◌==◌, ◌^◌, ◌∙◌, ◌∷◌, ◌≡◌}
use Rattle.std.proofs.lemmas.Bool.{false≢true}
use Rattle.macrocell_lines.specs.declared.bitmap.Bitmap.{Bitmap}
use Rattle.macrocell_lines.specs.Pieces.{◌>>=◌}

bit-first : (rest : ℕ) (b : Bool) → (((2 * rest + cond b 1 0) / 2 ^ 0) % 2 == 1) ≡ b
bit-first rest true = let odd : ((2 * rest + 1) / 1) % 2 ≡ 1 = omega arith in ap (λ n. n == 1) odd
bit-first rest false = let even : ((2 * rest + 0) / 1) % 2 ≡ 0 = omega arith in ap (λ n. n == 1) even

half-row : (rest : ℕ) (b : Bool) → (2 * rest + cond b 1 0) / 2 ≡ rest
half-row rest true = omega arith
half-row rest false = omega arith

bit-later : (rest x : ℕ) (b : Bool) → (2 * rest + cond b 1 0) / 2 ^ suc x ≡ rest / 2 ^ x
bit-later rest x b =
    ap (λ n. (2 * rest + cond b 1 0) / n) (pow-succ' 2 x)
    ∙ sym (div-div-eq-div-mul (2 * rest + cond b 1 0) 2 (2 ^ x))
    ∙ ap (λ n. n / 2 ^ x) (half-row rest b)

-- a bit of a row is set where its cells have a *
bits-at : (bs : List ℕ) (x : ℕ) → ((row_bits bs / 2 ^ x) % 2 == 1) ≡ (slice_index bs x == 42)
bits-at [] x = ap (λ n. n % 2 == 1) (zero-div (2 ^ x))
bits-at (b ∷ bs) zero = bit-first (row_bits bs) (b == 42)
bits-at (b ∷ bs) (suc x) = ap (λ n. n % 2 == 1) (bit-later (row_bits bs) x (b == 42)) ∙ bits-at bs x

kept_some : {A : Type 0} (b : Bool) (n m : A) → cond b (Some n) None ≡ Some m → n ≡ m
kept_some true n m h = cc
kept_some false n m h = absurd (cc)

cons_some : (row : ℕ) (read : Option (List ℕ)) (rows : List ℕ) → option_map (λ rows. row ∷ rows) read ≡ Some rows → (rest : List ℕ) × (read ≡ Some rest) × (row ∷ rest ≡ rows)
cons_some row None rows h = absurd (cc)
cons_some row (Some rest) rows h = (rest, refl, cc)

first_some : (read : Option ℕ) (others : Option (List ℕ)) (rows : List ℕ) → (read >>= λ row. option_map (λ rows. row ∷ rows) others) ≡ Some rows → (row : ℕ) × (read ≡ Some row) × (option_map (λ rows. row ∷ rows) others ≡ Some rows)
first_some None others rows h = absurd (cc)
first_some (Some row) others rows h = (row, refl, h)

dead_row : (n y : ℕ) → slice_index (replicate n 0) y ≡ 0
dead_row zero y = refl
dead_row (suc n) zero = refl
dead_row (suc n) (suc y) = dead_row n y

left_out : (b : Bool) (read : Option (List ℕ)) (rows : List ℕ) → cond b read None ≡ Some rows → (b ≡ true) × (read ≡ Some rows)
left_out true read rows h = (refl, h)
left_out false read rows h = absurd (cc)

no-bits : (text : List ℕ) → (length text == 0) ≡ true → row_bits text ≡ 0
no-bits [] h = refl
no-bits (b ∷ bs) h = absurd (false≢true (sym (differs (length (b ∷ bs)) 0 (λ e. omega arith)) ∙ h))

-- where no row is due none is read
none-due : (texts : List (List ℕ)) (rows : List ℕ) → rows_of zero texts ≡ Some rows → [] ≡ rows
none-due [] rows h = cc
none-due (text ∷ texts) rows h = none-due texts rows (left_out (length text == 0) (rows_of zero texts) rows h).1

-- each row has the bits of its text
rows-at : (due : ℕ) (texts : List (List ℕ)) (rows : List ℕ) (y : ℕ) → rows_of due texts ≡ Some rows → slice_index rows y ≡ row_bits (slice_index_or texts y [])
rows-at due [] rows y h = let dead : replicate due 0 ≡ rows = cc in ap (λ rows. slice_index rows y) (sym dead) ∙ dead_row due y
rows-at zero (text ∷ texts) rows zero h =
    let none = none-due (text ∷ texts) rows h in
    let blank = left_out (length text == 0) (rows_of zero texts) rows h in
    ap (λ rows. slice_index rows 0) (sym none) ∙ sym (no-bits text blank.0)
rows-at zero (text ∷ texts) rows (suc y) h =
    let none = none-due (text ∷ texts) rows h in
    let blank = left_out (length text == 0) (rows_of zero texts) rows h in
    ap (λ rows. slice_index rows (suc y)) (sym none) ∙ ap (λ rows. slice_index rows y) none ∙ rows-at zero texts rows y blank.1
rows-at (suc due) (text ∷ texts) rows zero h =
    let first = first_some (row_of text) (rows_of due texts) rows h in
    let rest = cons_some first.0 (rows_of due texts) rows first.2 in
    let bits = kept_some (nat_le (length text) 8 && list_all is_cell text) (row_bits text) first.0 first.1 in
    ap (λ rows. slice_index rows 0) (sym rest.2) ∙ sym bits
rows-at (suc due) (text ∷ texts) rows (suc y) h =
    let first = first_some (row_of text) (rows_of due texts) rows h in
    let rest = cons_some first.0 (rows_of due texts) rows first.2 in
    ap (λ rows. slice_index rows (suc y)) (sym rest.2) ∙ rows-at due texts rest.0 y rest.1

drawn_some : (read : Option (List ℕ)) (bitmap : Bitmap) → option_map (λ rows. record { rows = rows }) read ≡ Some bitmap → read ≡ Some bitmap.rows
drawn_some None bitmap h = absurd (cc)
drawn_some (Some rows) bitmap h = let drawn : record { rows = rows } ≡ bitmap = cc in ap (λ b. Some b.rows) drawn

-- the cells of a bitmap are those of its line
pub bitmaps-show : BitmapsShowTheirLines
bitmaps-show line bitmap x y h =
    ap (λ row. (row / 2 ^ x) % 2 == 1) (rows-at 8 (pieces 36 line) bitmap.rows y (drawn_some (rows_of 8 (pieces 36 line)) bitmap h))
    ∙ bits-at (slice_index_or (pieces 36 line) y []) x
