-- Bitmaps that are written as lines read back.
use Rattle.macrocell_lines.proofs.Names.{All, AllByRecursion, BadRow, Bitmap, Bool, IsBitmap, IsLine, IsVisible, List, MacrocellText, Node, None, Ok, Option, Some, [], after_line, all_append, all_so, ap, append_assoc, ap₂, arith, bitmap_of}
use Rattle.macrocell_lines.proofs.Names.{check_room, cond, false, inl, inr, is_cell, length, line-visible, list_all, map, nat_le, nat_lt, nat_tests, node_of, ok_or, option_map, pieces, pow-suc, refl, row_bits, row_of, rows_of, rows_text}
use Rattle.macrocell_lines.proofs.Names.{slice_index, suc, sym, true, zero, ℕ, ◌%◌, ◌&&◌, ◌*◌, ◌++◌, ◌/◌, ◌<◌, ◌==◌, ◌>>=◌, ◌^◌, ◌∙◌, ◌∷◌, ◌≡◌, ◌⊎◌}
use Rattle.std.proofs.lemmas.List.Elements.{All-from_recursion}
use Rattle.std.proofs.lemmas.List.Splits.{slice_split_at}
use Rattle.std.proofs.lemmas.Nat.{div_below}
use Rattle.macrocell_lines.specs.declared.bitmap.Bitmap as bitmaps
use Rattle.macrocell_lines.specs.Pieces as options
use Rattle.macrocell_lines.specs.WrittenText.{row_text}

-- a dead or a live cell
abbrev IsCell : ℕ → Type 0
IsCell b = (b ≡ 46) ⊎ (b ≡ 42)

cell_of : (b : Bool) → IsCell (cond b 42 46)
cell_of true = inr refl
cell_of false = inl refl

row-cells : (width row : ℕ) → AllByRecursion IsCell (row_text width row)
unfolding row_text
row-cells zero row = tt
row-cells (suc width) row = (cell_of (row % 2 == 1), row-cells width (row / 2))

cell-test : (b : ℕ) → IsCell b → is_cell b ≡ true
cell-test b h = elim h [ inl e ↦ rw e refl | inr e ↦ rw e refl ]

cell-visible : (b : ℕ) → IsCell b → IsVisible b
cell-visible b h = elim h [ inl e ↦ (omega arith, omega arith) | inr e ↦ (omega arith, omega arith) ]

cell-inside : (b : ℕ) → IsCell b → (b == 36) ≡ false
cell-inside b h = elim h [ inl e ↦ rw e refl | inr e ↦ rw e refl ]

cells-test : (bs : List ℕ) → AllByRecursion IsCell bs → list_all is_cell bs ≡ true
cells-test [] h = refl
cells-test (b ∷ bs) h = rw (cell-test b h.0) (cells-test bs h.1)

length-row_text : (width row : ℕ) → length (row_text width row) ≡ width
unfolding row_text
length-row_text zero row = refl
length-row_text (suc width) row = ap suc (length-row_text width (row / 2))

bit_of : (n : ℕ) → n < 2 → cond (cond (n == 1) 42 46 == 42) 1 0 ≡ n
bit_of zero h = refl
bit_of (suc zero) h = refl
bit_of (suc (suc n)) h = absurd (omega arith)

row_bits-row_text : (width row : ℕ) → row < 2 ^ width → row_bits (row_text width row) ≡ row
unfolding row_text
row_bits-row_text zero row h = let none : row ≡ 0 = omega arith in sym none
row_bits-row_text (suc width) row h =
    let wide : row < 2 ^ width * 2 = rw pow-suc at h in
    let half = row_bits-row_text width (row / 2) (div_below row 2 (2 ^ width) (omega arith) wide) in
    let low = bit_of (row % 2) (omega arith) in
    omega (arith, half, low)

row_of-row_text : (row : ℕ) → row < 2 ^ 8 → row_of (row_text 8 row) ≡ Some row
row_of-row_text row h =
    let short : nat_le (length (row_text 8 row)) 8 ≡ true = ap (λ n. nat_le n 8) (length-row_text 8 row) in
    ap₂ (λ a b. cond (a && b) (Some (row_bits (row_text 8 row))) None) short (cells-test (row_text 8 row) (row-cells 8 row))
    ∙ ap (λ n. Some n) (row_bits-row_text 8 row h)

no-end : (bs : List ℕ) → AllByRecursion IsCell bs → All (λ b. (b == 36) ≡ false) bs
no-end bs h = All-from_recursion (λ b. (b == 36) ≡ false) bs (all_so IsCell (λ b. (b == 36) ≡ false) bs cell-inside h)

pieces-rows : (rows : List ℕ) → pieces 36 (rows_text rows) ≡ map (row_text 8) rows ++ [] ∷ []
pieces-rows [] = refl
pieces-rows (row ∷ rows) =
    ap (pieces 36) (append_assoc (row_text 8 row) (36 ∷ []) (rows_text rows))
    ∙ slice_split_at (λ b. b == 36) (row_text 8 row) 36 (rows_text rows) (no-end (row_text 8 row) (row-cells 8 row)) refl
    ∙ ap (λ (texts : List (List ℕ)). row_text 8 row ∷ texts) (pieces-rows rows)

rows_of-texts : (rows : List ℕ) → ((y : ℕ) → slice_index rows y < 256) → rows_of (length rows) (map (row_text 8) rows ++ [] ∷ []) ≡ Some rows
rows_of-texts [] h = refl
rows_of-texts (row ∷ rows) h =
    ap (λ read. option_then read (rows_of (length rows) (map (row_text 8) rows ++ [] ∷ []))) (row_of-row_text row (h 0))
    ∙ ap (option_map (λ rows. row ∷ rows)) (rows_of-texts rows (λ y. h (suc y)))
  where
    option_then : Option ℕ → Option (List ℕ) → Option (List ℕ)
    option_then read others = options.◌>>=◌ read (λ row. option_map (λ rows. row ∷ rows) others)

bitmap_of-rows : (bitmap : bitmaps.Bitmap) → IsBitmap bitmap.rows → bitmap_of (rows_text bitmap.rows) ≡ Some bitmap
bitmap_of-rows bitmap h =
    ap (option_map (λ rows. record { rows = rows }))
    (ap (rows_of 8) (pieces-rows bitmap.rows)
    ∙ ap (λ n. rows_of n (map (row_text 8) bitmap.rows ++ [] ∷ [])) (sym h.long)
    ∙ rows_of-texts bitmap.rows h.each)

node_of-cell : (number : ℕ) (nodes : List Node) (b : ℕ) (bs : List ℕ) → IsCell b → node_of number nodes (b ∷ bs) ≡ (ok_or (bitmap_of (b ∷ bs)) (BadRow number) >>= λ bitmap. check_room nodes >>= λ _. Ok (Bitmap bitmap))
node_of-cell number nodes b bs h = elim h [ inl e ↦ rw e refl | inr e ↦ rw e refl ]

after_line-cell : (number : ℕ) (said : MacrocellText) (b : ℕ) (bs : List ℕ) → IsCell b → after_line number said (b ∷ bs) ≡ (node_of number said.nodes (b ∷ bs) >>= λ node. Ok (record said { nodes = said.nodes ++ node ∷ [] }))
after_line-cell number said b bs h = elim h [ inl e ↦ rw e refl | inr e ↦ rw e refl ]

-- a line that begins with a cell
record IsCellLine (line : List ℕ) : Type 0 where
  cell : ℕ
  rest : List ℕ
  is : line ≡ cell ∷ rest
  is_cell : IsCell cell

row-start : (width row : ℕ) → IsCellLine (row_text (suc width) row)
unfolding row_text
row-start width row = record { cell = cond (row % 2 == 1) 42 46; rest = row_text width (row / 2); is = refl; is_cell = cell_of (row % 2 == 1) }

rows-start : (rows : List ℕ) → 0 < length rows → IsCellLine (rows_text rows)
rows-start [] some = absurd (omega arith)
rows-start (row ∷ rows) some =
    let first = row-start 7 row in
    record { cell = first.cell; rest = first.rest ++ 36 ∷ [] ++ rows_text rows; is = ap (λ bs. bs ++ 36 ∷ [] ++ rows_text rows) first.is; is_cell = first.is_cell }

room-node : (nodes : List Node) (node : Node) → length nodes < 16777216 → (check_room nodes >>= λ _. Ok node) ≡ Ok node
room-node nodes node h = let below : nat_lt (length nodes) 16777216 ≡ true = grind (arith, nat_tests) in rw below refl

-- a bitmap that is written reads back
pub bitmap-taken : (number : ℕ) (said : MacrocellText) (bitmap : bitmaps.Bitmap) → length said.nodes < 16777216 → IsBitmap bitmap.rows
    → after_line number said (rows_text bitmap.rows) ≡ Ok (record said { nodes = said.nodes ++ Bitmap bitmap ∷ [] })
bitmap-taken number said bitmap room h =
    let long = h.long in
    let starts = rows-start bitmap.rows (omega arith) in
    ap (after_line number said) starts.is
    ∙ after_line-cell number said starts.cell starts.rest starts.is_cell
    ∙ ap (λ read. read >>= λ node. Ok (record said { nodes = said.nodes ++ node ∷ [] }))
    (node_of-cell number said.nodes starts.cell starts.rest starts.is_cell
    ∙ ap (λ line. ok_or (bitmap_of line) (BadRow number) >>= λ bitmap. check_room said.nodes >>= λ _. Ok (Bitmap bitmap)) (sym starts.is)
    ∙ ap (λ read. ok_or read (BadRow number) >>= λ bitmap. check_room said.nodes >>= λ _. Ok (Bitmap bitmap)) (bitmap_of-rows bitmap h)
    ∙ room-node said.nodes (Bitmap bitmap) room)

rows-visible : (rows : List ℕ) → AllByRecursion IsVisible (rows_text rows)
rows-visible [] = tt
rows-visible (row ∷ rows) =
    all_append IsVisible (row_text 8 row ++ 36 ∷ []) (rows_text rows)
    (all_append IsVisible (row_text 8 row) (36 ∷ []) (all_so IsCell IsVisible (row_text 8 row) cell-visible (row-cells 8 row)) ((omega arith, omega arith), tt))
    (rows-visible rows)

-- a bitmap is written as a line
pub rows-line : (rows : List ℕ) → IsBitmap rows → IsLine (rows_text rows)
rows-line rows h =
    let long = h.long in
    let starts = rows-start rows (omega arith) in
    line-visible (rows_text rows) (omega (arith, ap length starts.is)) (rows-visible rows)
