-- What is noted in rows.
use Rattle.square_table.proofs.Names.{List, Row, Table, [], ap, append_assoc, arith, common_steps, drop, first_number, get_or, get_or-map, get_or-set_same, kids_in, kids_of, length, length-append, length-map, length-replicate, length-set}
use Rattle.square_table.proofs.Names.{length_push, map, map-set, map_push, note_in, note_range, notes_of, refl, replicate, replicate-append-replicate, set-append_left, set-get_or, slice_set, suc, sym, take, with_note, with_row}
use Rattle.square_table.proofs.Names.{without_notes, zero, ℕ, ◌%◌, ◌*◌, ◌++◌, ◌+◌, ◌-◌, ◌/◌, ◌<◌, ◌∙◌, ◌∷◌, ◌≡◌, ◌≤◌}
use Rattle.square_table.specs.Rows.{note_of}

abbrev pub no_row : Row
no_row = record { words = [] }

-- digits to the base 128
pub digits : (n : ℕ) → n < note_range → n % 128 + 128 * (n / 128 % 128 + 128 * (n / 128 / 128 % 128 + 128 * (n / 128 / 128 / 128))) ≡ n
digits n few = omega (arith, few)

-- four words
pub note_four : (a b c d : ℕ) → note_of (a ∷ b ∷ c ∷ d ∷ []) ≡ a / 33554432 + 128 * (b / 33554432 + 128 * (c / 33554432 + 128 * (d / 33554432)))
unfolding note_of
note_four a b c d = refl

-- a row that is set to one with the same quadrants
pub kids_of-set : (rows : List Row) (p : ℕ) (r : Row) → p < length rows → kids_in r ≡ kids_in (get_or rows p no_row) → kids_of (slice_set rows p r) ≡ kids_of rows
kids_of-set rows p r there same =
    map-set kids_in rows p r ∙ ap (slice_set (kids_of rows) p) (same ∙ sym (get_or-map kids_in rows p no_row [] there)) ∙ set-get_or (kids_of rows) p []

-- one row more, of which nothing is noted, where there is room for it
pub notes_of-push : (rows : List Row) (r : Row) (limit : ℕ) → note_in r ≡ 0 → length rows < limit → notes_of (rows ++ r ∷ []) limit ≡ notes_of rows limit
notes_of-push rows r limit none room =
    let left : limit - length rows ≡ suc (limit - length (rows ++ r ∷ [])) = omega (arith, room, length_push rows r) in
    rw (map_push note_in rows r, none, left, append_assoc (map note_in rows) (0 ∷ []) (replicate (limit - length (rows ++ r ∷ [])) 0)) refl

-- where it is noted instead
pub notes_of-set : (rows new : List Row) (i r limit : ℕ) → i < length rows → map note_in new ≡ slice_set (map note_in rows) i r → notes_of new limit ≡ slice_set (notes_of rows limit) i r
notes_of-set rows new i r limit there is =
    let long : length new ≡ length rows = sym (length-map new note_in) ∙ ap length is ∙ length-set (map note_in rows) i r ∙ length-map rows note_in in
    rw (is, long) (sym (set-append_left (map note_in rows) (replicate (limit - length rows) 0) i r (omega (arith, there, length-map rows note_in))))

-- where nothing is noted
pub notes_of-none : (rows : List Row) (n limit : ℕ) → n ≤ limit → map note_in rows ≡ replicate n 0 → notes_of rows limit ≡ replicate limit 0
notes_of-none rows n limit few is =
    let long : length rows ≡ n = sym (length-map rows note_in) ∙ ap length is ∙ length-replicate {A = ℕ} n 0 in
    rw (is, long, replicate-append-replicate {A = ℕ} n (limit - n) 0) (ap (λ m. replicate m 0) (omega (arith, few)))

-- so it is where each is 0
pub all_none : (notes : List ℕ) (n : ℕ) → length notes ≡ n → ((i : ℕ) → i < n → get_or notes i 0 ≡ 0) → notes ≡ replicate n 0
all_none [] zero long none = refl
all_none [] (suc n) long none = absurd (omega (arith, long))
all_none (r ∷ notes) zero long none = absurd (omega (arith, long))
all_none (r ∷ notes) (suc n) long none =
    rw (none 0 (omega arith)) (ap (λ rest. 0 ∷ rest) (all_none notes n (omega (arith, long)) (λ i h. none (suc i) (omega (arith, h)))))

-- a slice written over all of a vector
pub whole : {A : Type 0} (n : ℕ) (xs ys : List A) → n ≡ length ys → length xs ≡ length ys → xs ≡ take n (xs ++ drop (length xs) ys)
whole n xs ys e f = grind (arith, common_steps)

pub same_length : {A B : Type 0} (f : A → B) (xs ys : List A) → map f xs ≡ map f ys → length xs ≡ length ys
same_length f xs ys is = sym (length-map xs f) ∙ ap length is ∙ length-map ys f

-- what contracts see of a table by its rows
abbrev pub seen : List Row → ℕ → Table
seen rows limit = record { rows = kids_of rows; limit = limit; notes = notes_of rows limit }

pub seen-push : (t : Table) (rows : List Row) (row : Row) (limit : ℕ) (kids : List ℕ) → t ≡ seen rows limit → length rows < limit → kids_in row ≡ kids → note_in row ≡ 0 →
    seen (rows ++ row ∷ []) limit ≡ with_row t kids
seen-push t rows row limit kids is room own none = rw (is, map_push kids_in rows row, own, notes_of-push rows row limit none room) refl

pub seen-note : (t : Table) (rows new : List Row) (limit n r : ℕ) → t ≡ seen rows limit → first_number ≤ n → n < first_number + length t.rows →
    kids_of new ≡ kids_of rows → map note_in new ≡ slice_set (map note_in rows) (n - first_number) r → seen new limit ≡ with_note t n r
seen-note t rows new limit n r is above there same set =
    let place : n - first_number < length rows = omega (arith, above, there, ap (λ (u : Table). length u.rows) is, length-map rows kids_in) in
    rw (is, same, notes_of-set rows new (n - first_number) r limit place set) refl

pub seen-none : (t : Table) (rows new : List Row) (limit : ℕ) → t ≡ seen rows limit → length rows ≤ limit →
    kids_of new ≡ kids_of rows → map note_in new ≡ replicate (length rows) 0 → seen new limit ≡ without_notes t
seen-none t rows new limit is few same none = rw (is, same, notes_of-none new (length rows) limit few none) refl

-- what was noted is there
pub noted-there : (t : Table) (rows : List Row) (limit n r : ℕ) → t ≡ seen rows limit → first_number ≤ n → n < first_number + length t.rows →
    get_or (with_note t n r).notes (n - first_number) 0 ≡ r
noted-there t rows limit n r is above there =
    let few : length rows ≡ length t.rows = sym (length-map rows kids_in) ∙ ap (λ (u : Table). length u.rows) (sym is) in
    let long : length t.notes ≡ length rows + (limit - length rows) = ap (λ (u : Table). length u.notes) is
    ∙ length-append (map note_in rows) (replicate (limit - length rows) 0) ∙ grind (arith, length-map rows note_in, length-replicate {A = ℕ} (limit - length rows) 0) in
    get_or-set_same t.notes (n - first_number) r 0 (omega (arith, above, there, few, long))
