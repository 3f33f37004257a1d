-- Texts that are written read back.
use Rattle.macrocell_lines.proofs.Names.{AllByRecursion, AreNodes, IsDigit, IsLine, IsPrinted, IsVisible, List, Node, None, Ok, Some, WrittenSaysTheSame, [], after_line, after_lines, all_so, ap, arith, codes, cond, decimal, decimal-numeral}
use Rattle.macrocell_lines.proofs.Names.{differs, digit-visible, ends-append, ends-visible, false, length, line-between, map, name-visible, nat_lt, nat_tests, node_line, not, nothing_said, position, position_or_len, printed-tested, refl}
use Rattle.macrocell_lines.proofs.Names.{said_by, says-lines, trim-blank, visible-printed, written_lines, ℕ, ◌++◌, ◌+◌, ◌<◌, ◌==◌, ◌>>=◌, ◌^◌, ◌∙◌, ◌∷◌, ◌≡◌}
use Rattle.text_lines.specs.RuleNames.{IsName, IsNameByte}
use Rattle.macrocell_lines.proofs.NumberLines.{number_in-decimal}
use Rattle.macrocell_lines.proofs.WrittenNodes.{node-lines, nodes-taken}

colon_none : (name : List ℕ) → AllByRecursion IsNameByte name → position_or_len (λ b. b == 58) name ≡ length name
colon_none [] h = refl
colon_none (b ∷ bs) h =
    let first = h.0 in
    ap (λ v. cond (not v) (1 + position_or_len (λ b. b == 58) bs) 0) (differs b 58 first.other) ∙ omega (arith, colon_none bs h.1)

no-colon : (name : List ℕ) → AllByRecursion IsNameByte name → position (λ b. b == 58) name ≡ None
no-colon name h =
    let past : nat_lt (length name) (length name) ≡ false = grind (arith, nat_tests) in
    ap (λ n. cond (nat_lt n (length name)) (Some n) None) (colon_none name h) ∙ ap (λ v. cond v (Some (length name)) None) past

name-taken : (name : List ℕ) → IsName name → after_line 2 nothing_said (codes "#R " ++ name) ≡ Ok (record { heading = record { rule_name = name; generation = 0 }; nodes = [] })
name-taken name h = rw (trim-blank name (name-visible name h.bytes)) (rw (no-colon name h.bytes) refl)

digits-visible : (n : ℕ) → n < 2 ^ 64 → AllByRecursion IsVisible (decimal n)
digits-visible n h = let numeral = decimal-numeral n h in all_so IsDigit IsVisible (decimal n) digit-visible numeral.digits

generation-taken : (name : List ℕ) (generation : ℕ) → generation < 2 ^ 64
    → after_line 3 (record { heading = record { rule_name = name; generation = 0 }; nodes = [] }) (codes "#G " ++ decimal generation) ≡ Ok
    (record { heading = record { rule_name = name; generation = generation }; nodes = [] })
generation-taken name generation h =
    let numeral = decimal-numeral generation h in
    rw (trim-blank (decimal generation) (digits-visible generation h)) (rw (number_in-decimal generation h) refl)

-- a mark, a blank and visible bytes
mark-line : (letter : ℕ) (bs : List ℕ) → IsVisible letter → 0 < length bs → AllByRecursion IsVisible bs → IsLine (35 ∷ letter ∷ 32 ∷ bs)
mark-line letter bs h some visible =
    line-between 35 (letter ∷ 32 ∷ bs) (omega arith, omega arith)
    (visible-printed letter h, ((omega arith, omega arith), all_so IsVisible IsPrinted bs visible-printed visible))
    (ends-append (35 ∷ letter ∷ 32 ∷ []) bs (ends-visible bs some visible))

first-line : IsLine (codes "[M2] (experiment desk)")
first-line = record { printed = printed-tested (codes "[M2] (experiment desk)") refl; trimmed = refl }

written-lines : (name : List ℕ) (generation : ℕ) (nodes : List Node) → IsName name → generation < 2 ^ 64 → AreNodes nodes → AllByRecursion IsLine (written_lines name generation nodes)
written-lines name generation nodes h small are =
    let numeral = decimal-numeral generation small in
    let few = are.few in (
      first-line,
      (
        mark-line 82 name (omega arith, omega arith) h.some (name-visible name h.bytes),
        (
          mark-line 71 (decimal generation) (omega arith, omega arith) numeral.some (digits-visible generation small),
          node-lines [] nodes (omega arith) are.each,
        ),
      ),
    )

lines-taken : (name : List ℕ) (generation : ℕ) (nodes : List Node) → IsName name → generation < 2 ^ 64 → AreNodes nodes
    → said_by (written_lines name generation nodes) ≡ Ok (record { heading = record { rule_name = name; generation = generation }; nodes = nodes })
lines-taken name generation nodes h small are =
    let few = are.few in
    ap (λ read. read >>= λ said. after_lines 3 said ((codes "#G " ++ decimal generation) ∷ map node_line nodes)) (name-taken name h)
    ∙ ap (λ read. read >>= λ said. after_lines 4 said (map node_line nodes)) (generation-taken name generation small)
    ∙ nodes-taken 4 (record { rule_name = name; generation = generation }) [] nodes (omega arith) are.each

-- what is written says the same
pub written-says : WrittenSaysTheSame
written-says name generation nodes h small are =
    ap said_by (says-lines (written_lines name generation nodes) (written-lines name generation nodes h small are))
    ∙ lines-taken name generation nodes h small are
