-- Texts by the lines that line feeds end.
use Rattle.text_lines.proofs.Names.{AllByRecursion, End, Ended, IsBlank, List, NoLineFeed, [], ap, append-nil, append_assoc, arith, common_steps, false, full_line, lines_from, map, nat_tests, refl, says, strip_carriage_return, sym, trim}
use Rattle.text_lines.proofs.Names.{with_carriage_returns, ℕ, ◌++◌, ◌==◌, ◌∙◌, ◌∷◌, ◌≡◌, ◌≢◌}
use Rattle.text_lines.proofs.Shared.ByteRanges.{differs}
use Rattle.text_lines.proofs.Shared.Trims.{trim-between_blanks}

-- the lines of a text that ends with a line feed, and those of the text behind it
lines_from-append : (begun xs ys : List ℕ) → lines_from Ended begun (xs ++ 10 ∷ ys) ≡ lines_from Ended begun (xs ++ 10 ∷ []) ++ lines_from Ended [] ys
lines_from-append begun [] ys = refl
lines_from-append begun (x ∷ xs) ys = grind (arith, lines_from-append [] xs ys, lines_from-append (begun ++ x ∷ []) xs ys)

pub says-append : (xs ys : List ℕ) → says (xs ++ 10 ∷ ys) ≡ says (xs ++ 10 ∷ []) ++ says ys
says-append xs ys = grind (arith, common_steps, lines_from-append [] xs ys)

pub line-first : (stop : End) (begun line ys : List ℕ) → NoLineFeed line → lines_from stop begun (line ++ 10 ∷ ys) ≡ full_line (begun ++ line) ∷ lines_from stop [] ys
line-first stop begun [] ys h = rw append-nil refl
line-first stop begun (b ∷ bs) ys h = rw h.0 (line-first stop (begun ++ b ∷ []) bs ys h.1 ∙ rw append_assoc refl)

-- the first line says what stands before the first line feed
pub says-line : (line ys : List ℕ) → NoLineFeed line → says (line ++ 10 ∷ ys) ≡ trim (strip_carriage_return line) ∷ says ys
says-line line ys h = ap (map (λ line. line.says)) (line-first Ended [] line ys h)

-- bytes of one line stay such behind others
pub no_line_feed-append : (xs ys : List ℕ) → NoLineFeed xs → NoLineFeed ys → NoLineFeed (xs ++ ys)
no_line_feed-append [] ys h k = k
no_line_feed-append (x ∷ xs) ys h k = (h.0, no_line_feed-append xs ys h.1 k)

-- as are bytes of a kind that has no line feed
pub one-line : (P : ℕ → Type 0) → ((b : ℕ) → P b → (b == 10) ≡ false) → (bs : List ℕ) → AllByRecursion P bs → NoLineFeed bs
one-line P other [] h = tt
one-line P other (b ∷ bs) h = (other b h.0, one-line P other bs h.1)

-- bytes of which none is a carriage return have none at their end
pub strip-none : (P : ℕ → Type 0) → ((b : ℕ) → P b → (b == 13) ≡ false) → (bs : List ℕ) → AllByRecursion P bs → strip_carriage_return bs ≡ bs
strip-none P other [] h = refl
strip-none P other (b ∷ []) h = rw (other b h.0) refl
strip-none P other (b ∷ c ∷ bs) h = ap (λ r. b ∷ r) (strip-none P other (c ∷ bs) h.1)

-- bytes before others stay
pub strip-behind : (xs : List ℕ) (y : ℕ) (ys : List ℕ) → strip_carriage_return (xs ++ y ∷ ys) ≡ xs ++ strip_carriage_return (y ∷ ys)
strip-behind [] y ys = refl
strip-behind (x ∷ []) y ys = refl
strip-behind (x ∷ z ∷ xs) y ys = ap (λ r. x ∷ r) (strip-behind (z ∷ xs) y ys)

strip-append : (xs ys : List ℕ) → strip_carriage_return xs ≡ xs → strip_carriage_return ys ≡ ys → strip_carriage_return (xs ++ ys) ≡ xs ++ ys
strip-append xs [] h k = rw append-nil h
strip-append xs (y ∷ ys) h k = strip-behind xs y ys ∙ ap (λ r. xs ++ r) k

-- blanks at the ends of a line change nothing of what a text says
pub says-between_blanks : (front line back ys : List ℕ) → AllByRecursion IsBlank front → AllByRecursion IsBlank back → NoLineFeed line
    → strip_carriage_return line ≡ line → says ((front ++ (line ++ back)) ++ 10 ∷ ys) ≡ says (line ++ 10 ∷ ys)
says-between_blanks front line back ys h k one unended =
    let within = one-line IsBlank (λ b k. grind (arith, nat_tests)) in
    let stays = strip-none IsBlank (λ b k. grind (arith, nat_tests)) in
    says-line (front ++ (line ++ back)) ys (no_line_feed-append front (line ++ back) (within front h) (no_line_feed-append line back one (within back k)))
    ∙ ap (λ said. said ∷ says ys) (ap trim (strip-append front (line ++ back) (stays front h) (strip-append line back unended (stays back k))) ∙ trim-between_blanks front line back h k ∙ ap trim (sym unended))
    ∙ sym (says-line line ys one)

-- with carriage returns or without them the lines say the same
returns-say : (begun xs : List ℕ) → strip_carriage_return begun ≡ begun → AllByRecursion (λ b. b ≢ 13) xs → map (λ line. line.says) (lines_from Ended begun (with_carriage_returns xs)) ≡ map (λ line. line.says) (lines_from Ended begun xs)
returns-say begun [] same h = refl
returns-say begun (x ∷ xs) same h =
    let fresh = returns-say [] xs refl h.1 in
    let more = returns-say (begun ++ x ∷ []) xs (strip-append begun (x ∷ []) same (rw (differs x 13 h.0) refl)) h.1 in
    let stripped : trim (strip_carriage_return (begun ++ 13 ∷ [])) ≡ trim (strip_carriage_return begun) = ap trim (strip-behind begun 13 [] ∙ append-nil begun ∙ sym same) in
    grind (arith, fresh, more, stripped)

-- a text of line ends of two bytes says what the one of line feeds says
pub says-returns : (text : List ℕ) → AllByRecursion (λ b. b ≢ 13) text → says (with_carriage_returns text) ≡ says text
says-returns text h = returns-say [] text refl h
