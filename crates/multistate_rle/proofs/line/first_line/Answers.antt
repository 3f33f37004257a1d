use Rattle.multistate_rle.proofs.Names.{Ended, List, None, Some, [], ap, arith, common_steps, cond, drop, drop-length, eqb-true, false, get_or, length, line_len, lines, nat_lt, no_place, not, passes_at_first, position, position_or_len}
use Rattle.multistate_rle.proofs.Names.{refl, rules, some_place, strip_carriage_return, sym, take, take-length, take_more, tests, trim, true, ℕ, ◌++◌, ◌+◌, ◌<◌, ◌==◌, ◌∙◌, ◌∷◌, ◌≡◌, ◌≢◌, ◌≤◌}
use Rattle.text_lines.proofs.Shared.FirstLine.{line_len-le, lines_from-full, lines_from-last}
use Rattle.multistate_rle.proofs.line.first_line.Goals as goal

-- the first line is as long as its line feed stands far
at_feed : (bs : List ℕ) → line_len bs ≡ position_or_len (λ b. b == 10) bs
at_feed [] = refl
at_feed (b ∷ bs) = elim (b == 10) as (λ v. cond v 0 (line_len bs + 1) ≡ cond (not v) (1 + position_or_len (λ b. b == 10) bs) 0) [ true ↦ refl | false ↦ omega (arith, at_feed bs) ]

-- a line that a line feed ends
lines-feed : (bs : List ℕ) (n : ℕ) → position (λ b. b == 10) bs ≡ Some n
    → lines bs ≡ record { says = trim (strip_carriage_return (take n bs)); raw = take (n + 1) bs } ∷ lines (drop (n + 1) bs)
lines-feed bs n h =
    let p : ℕ = position_or_len (λ b. b == 10) bs in
    let at = some_place (nat_lt p (length bs)) p n h in
    let within : p < length bs = search (rules, tests) in
    let is : line_len bs ≡ n = at_feed bs ∙ at.1 in
    let feed : get_or bs p 0 ≡ 10 = eqb-true _ _ (passes_at_first (λ b. b == 10) bs 0 within) in
    let whole : take n bs ++ 10 ∷ [] ≡ take (n + 1) bs = rw (← at.1) (ap (λ b. take p bs ++ b ∷ []) (sym feed) ∙ sym (take_more bs p 0 within)) in
    lines_from-full Ended [] bs (omega (arith, at_feed bs))
    ∙ ap (λ m. record { says = trim (strip_carriage_return (take m bs)); raw = take m bs ++ 10 ∷ [] } ∷ lines (drop (m + 1) bs)) is
    ∙ ap (λ (raw : List ℕ). record { says = trim (strip_carriage_return (take n bs)); raw = raw } ∷ lines (drop (n + 1) bs)) whole

-- the last line, which none ends
lines-last : (bs : List ℕ) → bs ≢ [] → position (λ b. b == 10) bs ≡ None → lines bs ≡ record { says = trim bs; raw = take (length bs) bs } ∷ lines (drop (length bs) bs)
lines-last [] some h = absurd (some refl)
lines-last (b ∷ bs) some h =
    let past : nat_lt (position_or_len (λ b. b == 10) (b ∷ bs)) (length (b ∷ bs)) ≡ false = no_place _ _ h in
    let far : length (b ∷ bs) ≤ position_or_len (λ b. b == 10) (b ∷ bs) = search (rules, tests) in
    lines_from-last Ended [] (b ∷ bs) (omega (arith, at_feed (b ∷ bs), line_len-le (b ∷ bs)))
    ∙ ap (λ (raw : List ℕ). record { says = trim (b ∷ bs); raw = raw } ∷ []) (sym (take-length (b ∷ bs)))
    ∙ ap (λ (left : List ℕ). record { says = trim (b ∷ bs); raw = take (length (b ∷ bs)) (b ∷ bs) } ∷ lines left) (sym (drop-length (b ∷ bs)))

pub returns-in-Some-clause-line : goal.returns-in-Some-clause-line
returns-in-Some-clause-line c =
    let line = lines-feed c.args.text.now c.in-Some.end (sym c.find_byte.ensures ∙ c.in-Some.is) in
    grind (arith, common_steps, line)

pub returns-in-None-clause-line : goal.returns-in-None-clause-line
returns-in-None-clause-line c =
    let line = lines-last c.args.text.now c.requires (sym c.find_byte.ensures ∙ c.in-None.is) in
    grind (arith, common_steps, line)
