-- The rows of a square, one after another, and how large their bits are.
use Rattle.macrocell_lines.proofs.Names.{Bool, List, None, Option, Some, [], ap, append_assoc, arith, cond, drop, false, length, option_map, pow-suc, refl, replicate, row_bits, row_of, rows_of, set, slice_index, suc, sym, take, true, zero}
use Rattle.macrocell_lines.proofs.Names.{ℕ, ◌++◌, ◌+◌, ◌-◌, ◌<◌, ◌==◌, ◌^◌, ◌∙◌, ◌∷◌, ◌≡◌, ◌≤◌}
use mir.Val.{bool_byte}
use Rattle.std.proofs.Math.Pow.{pow_mono}
use Rattle.std.proofs.lemmas.List.{take_more_set, take-append-drop, drop-set-lt, drop-drop, drop-replicate}
use Rattle.macrocell_lines.specs.Pieces.{◌>>=◌}

bit-below : (b : Bool) → cond b 1 0 < 2
bit-below true = omega arith
bit-below false = omega arith

pub byte-below : (b : Bool) → bool_byte b < 2
byte-below true = omega arith
byte-below false = omega arith

row_bits-below : (bs : List ℕ) → row_bits bs < 2 ^ length bs
row_bits-below [] = omega arith
row_bits-below (b ∷ bs) = rw pow-suc (omega (arith, row_bits-below bs, bit-below (b == 42)))

-- the bits of a row that has room for one more
pub row_bits-small : (bs : List ℕ) → length bs ≤ 7 → row_bits bs < 128
row_bits-small bs h =
    let most : 2 ^ length bs ≤ 2 ^ 7 = pow_mono h in
    omega (arith, row_bits-below bs)

rows-taken : (due : ℕ) (text : List ℕ) (texts : List (List ℕ)) (row : ℕ) → 0 < due → row_of text ≡ Some row → rows_of due (text ∷ texts) ≡ option_map (λ rows. row ∷ rows) (rows_of (due - 1) texts)
rows-taken zero text texts row some is = absurd (omega arith)
rows-taken (suc due) text texts row some is =
    let less : due ≡ suc due - 1 = omega arith in
    ap (λ read. read >>= λ row. option_map (λ rows. row ∷ rows) (rows_of due texts)) is
    ∙ ap (λ n. option_map (λ rows. row ∷ rows) (rows_of n texts)) less

-- bits of rows stay below 256
pub small-set : (rows : List ℕ) (y row : ℕ) → ((k : ℕ) → slice_index rows k < 256) → row < 256 → (k : ℕ) → slice_index (set rows y row) k < 256
small-set [] y row h small k = h k
small-set (r ∷ rows) zero row h small zero = small
small-set (r ∷ rows) zero row h small (suc k) = h (suc k)
small-set (r ∷ rows) (suc y) row h small zero = h 0
small-set (r ∷ rows) (suc y) row h small (suc k) = small-set rows y row (λ k. h (suc k)) small k

pub small-dead : (n k : ℕ) → slice_index (replicate n 0) k < 256
small-dead zero k = omega arith
small-dead (suc n) zero = omega arith
small-dead (suc n) (suc k) = small-dead n k

-- rows that are read, with others before them
abbrev pub with_front : List ℕ → Option (List ℕ) → Option (List ℕ)
with_front front read = option_map (λ rows. front ++ rows) read

with_front-cons : (front : List ℕ) (row : ℕ) (read : Option (List ℕ)) → with_front front (option_map (λ rows. row ∷ rows) read) ≡ with_front (front ++ row ∷ []) read
with_front-cons front row None = refl
with_front-cons front row (Some rows) = ap Some (sym (append_assoc front (row ∷ []) rows))

-- one more row is read
pub drawn-more : (y : ℕ) (rows text : List ℕ) (texts : List (List ℕ)) (row : ℕ) → y < 8 → length rows ≡ 8 → row_of text ≡ Some row
    → with_front (take (y + 1) (set rows y row)) (rows_of (8 - (y + 1)) texts) ≡ with_front (take y rows) (rows_of (8 - y) (text ∷ texts))
drawn-more y rows text texts row inside long is =
    let within : y < length rows = omega arith in
    let less : 8 - (y + 1) ≡ 8 - y - 1 = omega arith in
    ap (λ n. with_front (take (y + 1) (set rows y row)) (rows_of n texts)) less
    ∙ ap (λ front. with_front front (rows_of (8 - y - 1) texts)) (take_more_set rows y row within)
    ∙ sym (with_front-cons (take y rows) row (rows_of (8 - y - 1) texts))
    ∙ ap (with_front (take y rows)) (sym (rows-taken (8 - y) text texts row (omega arith) is))

-- the rows that are still due are dead
pub dead-more : (y : ℕ) (rows : List ℕ) (row : ℕ) → drop y rows ≡ replicate (8 - y) 0 → drop (y + 1) (set rows y row) ≡ replicate (8 - (y + 1)) 0
dead-more y rows row dead =
    let less : 8 - y - 1 ≡ 8 - (y + 1) = omega arith in
    drop-set-lt (y + 1) rows y row (omega arith)
    ∙ sym (drop-drop 1 y rows)
    ∙ ap (drop 1) dead
    ∙ drop-replicate 1 (8 - y) 0
    ∙ ap (λ n. replicate n 0) less

-- the rows that are left out are dead
pub drawn-all : (y : ℕ) (rows : List ℕ) → drop y rows ≡ replicate (8 - y) 0 → with_front (take y rows) (rows_of (8 - y) []) ≡ Some rows
drawn-all y rows dead = ap (λ rest. Some (take y rows ++ rest)) (sym dead) ∙ ap Some (take-append-drop y rows)
