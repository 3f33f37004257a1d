-- Lines that were passed without a fault, with one more.
use Rattle.macrocell_lines.proofs.Names.{BeginsWithNodes, Err, List, MacrocellText, Node, Ok, Result, [], after_line, after_lines, ap, arith, codes, drop, length, length-append, nat_eq, nothing_said, refl, said_by, starts_with, suc, take}
use Rattle.macrocell_lines.proofs.Names.{true, zero, ℕ, ◌++◌, ◌+◌, ◌-◌, ◌>>=◌, ◌∙◌, ◌∷◌, ◌≡◌, ◌≤◌}
use Rattle.macrocell_lines.specs.declared.fault.McFault.{McFault}

ok_first : (read : Result MacrocellText McFault) (f : MacrocellText → Result MacrocellText McFault) (last : MacrocellText) → (read >>= f) ≡ Ok last → (first : MacrocellText) × (read ≡ Ok first) × (f first ≡ Ok last)
ok_first (Ok first) f last h = (first, refl, h)
ok_first (Err fault) f last h = absurd (cc)

lines-push : (number : ℕ) (said : MacrocellText) (lines : List (List ℕ)) (line : List ℕ) (before after : MacrocellText)
    → after_lines number said lines ≡ Ok before → after_line (number + length lines) before line ≡ Ok after
    → after_lines number said (lines ++ line ∷ []) ≡ Ok after
lines-push number said [] line before after h k =
    let same : said ≡ before = cc in
    let here : number ≡ number + 0 = omega arith in
    ap (λ read. read >>= λ more. Ok more) (ap (λ s. after_line number s line) same ∙ ap (λ n. after_line n before line) here ∙ k)
lines-push number said (first ∷ lines) line before after h k =
    let next = ok_first (after_line number said first) (λ more. after_lines (number + 1) more lines) before h in
    let here : number + 1 + length lines ≡ number + length (first ∷ lines) = omega arith in
    ap (λ read. read >>= λ more. after_lines (number + 1) more (lines ++ line ∷ [])) next.1
    ∙ lines-push (number + 1) next.0 lines line before after next.2 (ap (λ n. after_line n before line) here ∙ k)

-- what stands before the next line, with it, and what is left behind it
record TakesLine (k : ℕ) (lines rest : List (List ℕ)) (line : List ℕ) : Type 0 where
  taken : take (k + 1) lines ≡ take k lines ++ line ∷ []
  left : drop (k + 1) lines ≡ rest
  count : length (take k lines) ≡ k

next-line : (k : ℕ) (lines rest : List (List ℕ)) (line : List ℕ) → drop k lines ≡ line ∷ rest → TakesLine k lines rest line
next-line zero lines rest line h = record { taken = ap (take 1) h; left = ap (drop 1) h; count = refl }
next-line (suc k) [] rest line h = absurd (cc)
next-line (suc k) (first ∷ lines) rest line h =
    let later = next-line k lines rest line h in
    let next : suc k + 1 ≡ suc (k + 1) = omega arith in
    record {
      taken = ap (λ n. take n (first ∷ lines)) next ∙ ap (λ (ls : List (List ℕ)). first ∷ ls) later.taken;
      left = ap (λ n. drop n (first ∷ lines)) next ∙ later.left;
      count = ap suc later.count;
    }

-- one more line is passed
pub passed-more : (number : ℕ) (lines rest : List (List ℕ)) (line : List ℕ) (before after : MacrocellText) → 1 ≤ number
    → drop (number - 1) lines ≡ line ∷ rest → after_lines 2 nothing_said (take (number - 1) lines) ≡ Ok before
    → after_line (number + 1) before line ≡ Ok after → after_lines 2 nothing_said (take (number + 1 - 1) lines) ≡ Ok after
passed-more number lines rest line before after low h passed k =
    let next = next-line (number - 1) lines rest line h in
    let same : number + 1 - 1 ≡ number - 1 + 1 = omega arith in
    let here : 2 + length (take (number - 1) lines) ≡ number + 1 = omega (arith, next.count) in
    ap (λ n. after_lines 2 nothing_said (take n lines)) same
    ∙ ap (after_lines 2 nothing_said) next.taken
    ∙ lines-push 2 nothing_said (take (number - 1) lines) line before after passed (ap (λ n. after_line n before line) here ∙ k)

pub left-more : (number : ℕ) (lines rest : List (List ℕ)) (line : List ℕ) → 1 ≤ number → drop (number - 1) lines ≡ line ∷ rest → drop (number + 1 - 1) lines ≡ rest
left-more number lines rest line low h =
    let next = next-line (number - 1) lines rest line h in
    let same : number + 1 - 1 ≡ number - 1 + 1 = omega arith in
    ap (λ n. drop n lines) same ∙ next.left

-- memory runs out at a node
pub wants-there : (number : ℕ) (lines rest : List (List ℕ)) (line : List ℕ) (before : MacrocellText) (node : Node) → 1 ≤ number
    → drop (number - 1) lines ≡ line ∷ rest → after_lines 2 nothing_said (take (number - 1) lines) ≡ Ok before
    → after_line (number + 1) before line ≡ Ok (record before { nodes = before.nodes ++ node ∷ [] })
    → BeginsWithNodes (after_lines 2 nothing_said) lines
wants-there number lines rest line before node low h passed k = record {
  count = number + 1 - 1;
  said = record before { nodes = before.nodes ++ node ∷ [] };
  read = passed-more number lines rest line before (record before { nodes = before.nodes ++ node ∷ [] }) low h passed k;
  some = omega (arith, length-append before.nodes (node ∷ []));
}

-- and so behind the first line
pub wants-behind : (first : List ℕ) (lines : List (List ℕ)) → starts_with nat_eq first (codes "[M2]") ≡ true → BeginsWithNodes (after_lines 2 nothing_said) lines → BeginsWithNodes said_by (first ∷ lines)
wants-behind first lines is h = record {
  count = suc h.count;
  said = h.said;
  read = rw is h.read;
  some = h.some;
}
