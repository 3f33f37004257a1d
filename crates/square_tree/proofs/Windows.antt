-- Steps of the states of a window.
use Rattle.square_tree.proofs.Names.{Cells, List, SFits, SpansSquare, [], ap, append-nil, arith, ints, map, pos, pow_mono, row_states, state_at, sym, unwrap_or, w64, window_states, ℕ, ℤ, ◌++◌, ◌+ℤ◌, ◌+◌, ◌<◌, ◌^◌, ◌∙◌, ◌∷◌, ◌≡◌, ◌≤◌}
use Rattle.std.specs.List.{range_with_len, concat}
use Rattle.std.proofs.lemmas.List.Folds.{concat-append}
use Rattle.std.proofs.lemmas.List.FromFn.{map-range_with_len_more}

-- one more state
pub row-more : (c : Cells) (x y : ℤ) (k s : ℕ) → s ≡ unwrap_or (state_at c (x +ℤ pos k) y) 0 → row_states c x y k ++ s ∷ [] ≡ row_states c x y (k + 1)
row-more c x y k s is =
    ap (λ n. row_states c x y k ++ n ∷ []) is
    ∙ sym (map-range_with_len_more (λ k. unwrap_or (state_at c (x +ℤ pos k) y) 0) 0 k k (omega arith))

-- one more row
pub window-more : (c : Cells) (left top : ℤ) (width k : ℕ) → window_states c left top width k ++ row_states c left (top +ℤ pos k) width ≡ window_states c left top width (k + 1)
window-more c left top width k =
    let row : ℕ → List ℕ = λ k. row_states c left (top +ℤ pos k) width in
    let rows = map row (range_with_len 0 k) in
    ap (λ t. concat rows ++ t) (sym (append-nil (row k))) ∙ sym (concat-append rows (row k ∷ [])) ∙ ap concat (sym (map-range_with_len_more row 0 k k (omega arith)))

-- a coordinate of a span lies in the square
pub spanned : {l n : ℕ} {z : ℤ} (k : ℕ) → SpansSquare l z n → k < n → SpansSquare l (z +ℤ pos k) 1
spanned k spans below =
    let from = spans.from in
    let to = spans.to in
    record { from = omega (arith, ints, from); to = omega (arith, ints, to, below) }

-- and fits
pub spanned_fits : {l n : ℕ} {z : ℤ} (k : ℕ) → l ≤ 62 → SpansSquare l z n → k < n → SFits w64 (z +ℤ pos k)
spanned_fits {l} k few spans below =
    let from = spans.from in
    let to = spans.to in
    let mono : 2 ^ l ≤ 2 ^ 62 = pow_mono few in
    record { sfits = grind (arith, ints) }
