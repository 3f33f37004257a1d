-- The first line of a text, by its length.
use Rattle.text_lines.proofs.Names.{End, Ended, List, [], add-one, ap, append-nil, append_assoc, arith, common_steps, drop, full_line, last_line, length, line_len, lines_from, map, refl, says, take, trim, ℕ, ◌++◌, ◌+◌, ◌<◌, ◌∷◌, ◌≡◌, ◌≢◌}
use Rattle.text_lines.proofs.Names.{◌≤◌}

pub line_len-le : (bs : List ℕ) → line_len bs ≤ length bs
line_len-le [] = omega arith
line_len-le (b ∷ bs) = grind (arith, line_len-le bs)

-- a line that a line feed ends
pub lines_from-full : (stop : End) (begun bs : List ℕ) → line_len bs < length bs → lines_from stop begun bs ≡ full_line (begun ++ take (line_len bs) bs) ∷ lines_from stop [] (drop (line_len bs + 1) bs)
lines_from-full stop begun [] h = absurd (omega arith)
lines_from-full stop begun (b ∷ bs) h = grind (arith, add-one, append-nil, lines_from-full stop (begun ++ b ∷ []) bs, append_assoc begun (b ∷ []) (take (line_len bs) bs))

-- the last line, which none ends
pub lines_from-last : (stop : End) (begun bs : List ℕ) → line_len bs ≡ length bs → lines_from stop begun bs ≡ last_line stop (begun ++ bs)
lines_from-last stop begun [] h = rw append-nil refl
lines_from-last stop begun (b ∷ bs) h = grind (arith, lines_from-last stop (begun ++ b ∷ []) bs, append_assoc begun (b ∷ []) bs)

pub says-last : (bs : List ℕ) → bs ≢ [] → line_len bs ≡ length bs → says bs ≡ trim bs ∷ []
says-last [] some h = absurd (some refl)
says-last (b ∷ bs) some h = ap (map (λ line. line.says)) (lines_from-last Ended [] (b ∷ bs) h)

-- what the lines of a text say, by its first
pub ruleset first_line = (lines_from-full, says-last)

-- there are no more lines than bytes
pub length_lines_from : (begun bs : List ℕ) → length (lines_from Ended begun bs) ≤ length begun + length bs
length_lines_from [] [] = omega arith
length_lines_from (b ∷ begun) [] = omega arith
length_lines_from begun (b ∷ bs) = grind (arith, common_steps, length_lines_from [] bs, length_lines_from (begun ++ b ∷ []) bs)
