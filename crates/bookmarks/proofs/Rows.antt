-- Steps of the text of a window.
use Rattle.bookmarks.proofs.Names.{List, ShowsWindow, World, [], ap, append-nil, append_assoc, arith, cell, codes, concat, decimal, drop, get_or, get_or-drop, get_or-take, join_with_byte, length, length-drop, length-take, line_of, map}
use Rattle.bookmarks.proofs.Names.{mul-le-mul_left, next_state, pos, range_with_len, refl, row_line, suc, sym, take, take_more, window_text, zero, ℕ, ℤ, ◌*◌, ◌++◌, ◌+ℤ◌, ◌+◌, ◌<◌, ◌∙◌, ◌∷◌, ◌≡◌, ◌≤◌}
use Rattle.std.proofs.lemmas.List.Folds.{concat-append}
use Rattle.std.proofs.lemmas.List.FromFn.{map-range_with_len_more, fill_by_all}

-- a piece behind others
behind : List (List ℕ) → List ℕ → List ℕ
behind [] p = p
behind (q ∷ ps) p = 32 ∷ p

join-push : (ps : List (List ℕ)) (p : List ℕ) → join_with_byte 32 (ps ++ p ∷ []) ≡ join_with_byte 32 ps ++ behind ps p
unfolding behind
join-push [] p = refl
join-push (q ∷ []) p = refl
join-push (q ∷ r ∷ ps) p = ap (λ t. q ++ (32 ∷ t)) (join-push (r ∷ ps) p) ∙ sym (append_assoc q (32 ∷ join_with_byte 32 (r ∷ ps)) (32 ∷ p))

behind-states : (states : List ℕ) (k s : ℕ) → k ≤ length states → behind (map decimal (take k states)) (decimal s) ≡ next_state k s
unfolding behind
behind-states states zero s h = refl
behind-states [] (suc k) s h = absurd (omega (arith, h))
behind-states (r ∷ states) (suc k) s h = refl

map-push : (states : List ℕ) (s : ℕ) → map decimal (states ++ s ∷ []) ≡ map decimal states ++ decimal s ∷ []
map-push [] s = refl
map-push (r ∷ states) s = ap (λ ps. decimal r ∷ ps) (map-push states s)

-- one more state
pub line-more : (states : List ℕ) (k d : ℕ) → k < length states → join_with_byte 32 (map decimal (take k states)) ++ next_state k (get_or states k d) ≡ join_with_byte 32 (map decimal (take (k + 1) states))
line-more states k d below =
    let s = get_or states k d in
    ap (λ t. join_with_byte 32 (map decimal (take k states)) ++ t) (sym (behind-states states k s (omega arith)))
    ∙ sym (join-push (map decimal (take k states)) (decimal s))
    ∙ ap (join_with_byte 32) (sym (map-push (take k states) s))
    ∙ ap (λ ss. join_with_byte 32 (map decimal ss)) (sym (take_more states k d below))

-- one more row
pub window-more : (w : World) (left top : ℤ) (width k : ℕ) → window_text w left top width k ++ row_line w left (top +ℤ pos k) width ≡ window_text w left top width (k + 1)
window-more w left top width k =
    let row : ℕ → List ℕ = λ k. row_line w left (top +ℤ pos k) width in
    let rows = map row (range_with_len 0 k) in
    ap (λ t. concat rows ++ t) (sym (append-nil (row k))) ∙ sym (concat-append rows (row k ∷ [])) ∙ ap concat (sym (map-range_with_len_more row 0 k k (omega arith)))

decimals-of : (f : ℕ → ℕ) (ks : List ℕ) → map decimal (map f ks) ≡ map (λ k. decimal (f k)) ks
decimals-of f [] = refl
decimals-of f (k ∷ ks) = ap (λ ps. decimal (f k) ∷ ps) (decimals-of f ks)

-- the line of a row of a list that has the window's states
pub shown-line : (states : List ℕ) (w : World) (left top : ℤ) (width height j : ℕ) → ShowsWindow states w left top width height → j < height
    → line_of (take width (drop (j * width) states)) ≡ row_line w left (top +ℤ pos j) width
shown-line states w left top width height j shows below =
    let state : ℕ → ℕ = λ k. cell w (left +ℤ pos k) (top +ℤ pos j) in
    let part : List ℕ = take width (drop (j * width) states) in
    let last : width * (j + 1) ≤ width * height = mul-le-mul_left width (omega (arith, below)) in
    let sized = shows.size in
    let size : length part ≡ width = simp (length-take, length-drop) (omega (arith, sized, last)) in
    let row : part ≡ map state (range_with_len 0 width) =
    fill_by_all state part width 0 size (λ k across.
    get_or-take width (drop (j * width) states) k 0 across
    ∙ get_or-drop (j * width) states k 0
    ∙ shows.states k j across below) in
    ap line_of row ∙ ap (λ ps. join_with_byte 32 ps ++ codes "\n") (decimals-of state (range_with_len 0 width))
