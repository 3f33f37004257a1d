-- Steps of the text of counts.
use Rattle.bookmarks.proofs.Names.{List, World, ap, append-nil, append_assoc, ap₂, arith, count_line, count_lines, count_lines-more, count_lines-none, suc, sym, ℕ, ◌++◌, ◌+◌, ◌-◌, ◌<◌, ◌∙◌, ◌≡◌}
use Rattle.worlds.specs.Live.{count_of}

-- one more state
pub lines-more : (w : World) (text after : List ℕ) (below state count : ℕ) → below < 255 → state ≡ below + 1 → count ≡ count_of w state → after ≡ text ++ count_line state count
    → text ++ count_lines w (below + 1) (255 - below) ≡ count_lines w 1 255
    → after ++ count_lines w ((below + 1) + 1) (255 - (below + 1)) ≡ count_lines w 1 255
lines-more w text after below state count h is counted grown before =
    let left : 255 - below ≡ suc (255 - (below + 1)) = omega arith in
    let next : (below + 1) + 1 ≡ suc (below + 1) = omega arith in
    ap (λ bs. bs ++ count_lines w ((below + 1) + 1) (255 - (below + 1))) grown
    ∙ append_assoc text (count_line state count) (count_lines w ((below + 1) + 1) (255 - (below + 1)))
    ∙ ap (λ s. text ++ (count_line state count ++ count_lines w s (255 - (below + 1)))) next
    ∙ ap₂ (λ s n. text ++ (count_line s n ++ count_lines w (suc (below + 1)) (255 - (below + 1)))) is (counted ∙ ap (count_of w) is)
    ∙ ap (λ bs. text ++ bs) (sym (count_lines-more w (below + 1) (255 - (below + 1))))
    ∙ ap (λ n. text ++ count_lines w (below + 1) n) (sym left)
    ∙ before

-- at the end
pub lines_all : (w : World) (text : List ℕ) (below : ℕ) → 255 - below ≡ 0 → text ++ count_lines w (below + 1) (255 - below) ≡ count_lines w 1 255 → text ≡ count_lines w 1 255
lines_all w text below none is =
    sym (append-nil text)
    ∙ ap (λ bs. text ++ bs) (sym (count_lines-none w (below + 1)))
    ∙ ap (λ n. text ++ count_lines w (below + 1) n) (sym none)
    ∙ is
