-- What a file says behind the line that names the rule.
use Rattle.std.proofs.Common.{◌≡◌, ◌≢◌, ℕ, ◌+◌, ◌==◌, Bool, true, false, cond, List, [], ◌∷◌, ◌++◌, length, map, Option, Some, None, option_map, ok_or, Result, Ok, Err, ap, refl}
use Rattle.std.specs.Option.{option_map_or}
use Rattle.text_lines.specs.Blanks.{trim}
use Rattle.text_lines.specs.Lines.{says}
use Rattle.text_lines.proofs.Shared.LineEnds.{says-append}
use Rattle.basics.specs.Results.{◌>>=◌}
use Rattle.rule_file.specs.declared.fault.RuleFault.{RuleFault}
use Rattle.rule_file.specs.declared.fault.RuleFault.TheVariants.{NoRuleLine}
use Rattle.rule_file.specs.declared.text.SectionKind.{SectionKind}
use Rattle.rule_file.specs.RuleFile.{NumberedLine, RuleFile, Section, file_of, named, numbered_from, opens_section, rule_name, said, section_kind, section_lines, section_of, unless_blank, without_comment}
use Rattle.rule_file.specs.Laws.{NamesRule, Saying, saying}
use Rattle.rule_file.proofs.Comments.{section_kind-none}

-- the number of the line behind such lines
abbrev behind : ℕ → List (List ℕ) → ℕ
behind n [] = n
behind n (text ∷ texts) = behind (n + 1) texts

numbered_from-append : (n : ℕ) (xs ys : List (List ℕ)) → numbered_from n (xs ++ ys) ≡ numbered_from n xs ++ numbered_from (behind n xs) ys
numbered_from-append n [] ys = refl
numbered_from-append n (x ∷ xs) ys = ap (λ lines. record { number = n; text = x } ∷ lines) (numbered_from-append (n + 1) xs ys)

-- the file of a name and a section, if there is one
abbrev pub with_section : List ℕ → Result Section RuleFault → Result RuleFile RuleFault
with_section name section = section >>= λ section. Ok (record { name = name; section = section })

-- the file of a name and the lines behind it
abbrev pub file_by : Result (List ℕ × List NumberedLine) RuleFault → Result RuleFile RuleFault
file_by found = found >>= λ found. with_section found.0 (section_of found.1)

-- lines that name the rule, and two ways to go on
named-behind : {X : Type 0} (view : Result RuleFile RuleFault → X) (lines others more : List NumberedLine) → named lines ≢ Err NoRuleLine
    → ((name : List ℕ) (front : List NumberedLine) → view (with_section name (section_of (front ++ others))) ≡ view (with_section name (section_of (front ++ more))))
    → view (file_by (named (lines ++ others))) ≡ view (file_by (named (lines ++ more)))
named-behind view [] others more h same = absurd (h refl)
named-behind view (line ∷ lines) others more h same = by (length line.text == 0) (rule_name line.text) h (λ k. named-behind view lines others more k same)
  where
    named_by : Bool → Option (List ℕ) → List NumberedLine → Result (List ℕ × List NumberedLine) RuleFault
    named_by blank name lines = cond blank (named lines) (ok_or (option_map (λ name. (name, lines)) name) NoRuleLine)

    by : (blank : Bool) (name : Option (List ℕ)) → named_by blank name lines ≢ Err NoRuleLine → (named lines ≢ Err NoRuleLine → view (file_by (named (lines ++ others))) ≡ view (file_by (named (lines ++ more))))
        → view (file_by (named_by blank name (lines ++ others))) ≡ view (file_by (named_by blank name (lines ++ more)))
    by true name h later = later h
    by false None h later = refl
    by false (Some name) h later = same name lines

-- the same of texts, whose lines behind the name have numbers from some n on
pub seen-behind : {X : Type 0} (view : Result RuleFile RuleFault → X) (before rest other : List ℕ) → NamesRule before
    → ((n : ℕ) (name : List ℕ) (front : List NumberedLine) → view (with_section name (section_of (front ++ numbered_from n (says rest)))) ≡ view (with_section name (section_of (front ++ numbered_from n (says other)))))
    → view (file_of (before ++ 10 ∷ rest)) ≡ view (file_of (before ++ 10 ∷ other))
seen-behind view before rest other names same =
    let first = says (before ++ 10 ∷ []) in
    rw (says-append before rest, says-append before other, numbered_from-append 1 first (says rest), numbered_from-append 1 first (says other))
    (named-behind view (numbered_from 1 first) (numbered_from (behind 1 first) (says rest)) (numbered_from (behind 1 first) (says other)) (λ e. names (ap file_by e)) (same (behind 1 first)))

-- a line that opens no section, in place of another that says the same
pub section-alike : (lines : List NumberedLine) (n : ℕ) (text other : List ℕ) (more : List NumberedLine) → opens_section text ≡ false → opens_section other ≡ false → trim (without_comment text) ≡ trim (without_comment other)
    → (section_lines (lines ++ record { number = n; text = text } ∷ more) ≡ section_lines (lines ++ record { number = n; text = other } ∷ more))
    × (section_of (lines ++ record { number = n; text = text } ∷ more) ≡ section_of (lines ++ record { number = n; text = other } ∷ more))
section-alike [] n text other more closed also same = (rw (closed, also, same) refl, rw (section_kind-none text closed, section_kind-none other also) refl)
section-alike (line ∷ lines) n text other more closed also same = let rest = section-alike lines n text other more closed also same in (
  ap (λ behind. cond (opens_section line.text) [] (said line ++ behind)) rest.0,
  λ i. option_map_or (λ kind. Ok (record { kind = kind; opened = line.number; lines = rest.0 i })) (section_kind line.text) (rest.1 i),
)

-- what a file says, if there is one
abbrev pub say : Result RuleFile RuleFault → Result Saying RuleFault
say file = file >>= λ file. Ok (saying file)

-- what lines say, without their numbers
abbrev texts : List NumberedLine → List (List ℕ)
texts lines = map (λ line. line.text) lines

-- lines that say the same but for their numbers: in a section that is open, and in the next one that they open
pub record SaySame (lines others : List NumberedLine) : Type 0 where
  in_open : texts (section_lines lines) ≡ texts (section_lines others)
  pub in_next : (name : List ℕ) → say (with_section name (section_of lines)) ≡ say (with_section name (section_of others))

-- so they do behind a line, whatever its number
say_same-behind : (n m : ℕ) (text : List ℕ) (lines others : List NumberedLine) → SaySame lines others → SaySame (record { number = n; text = text } ∷ lines) (record { number = m; text = text } ∷ others)
say_same-behind n m text lines others same = record { in_open = lines-by (opens_section text) (trim (without_comment text)); in_next = λ name. section-by name (section_kind text) }
  where
    lines-by : (opens : Bool) (text : List ℕ) → texts (cond opens [] (unless_blank n text ++ section_lines lines)) ≡ texts (cond opens [] (unless_blank m text ++ section_lines others))
    lines-by true text = refl
    lines-by false [] = same.in_open
    lines-by false (b ∷ bs) = ap (λ rest. (b ∷ bs) ∷ rest) same.in_open

    section-by : (name : List ℕ) (kind : Option SectionKind) → say (with_section name
        (option_map_or (λ kind. Ok (record { kind = kind; opened = n; lines = section_lines lines })) kind (section_of lines))) ≡ say
        (with_section name (option_map_or (λ kind. Ok (record { kind = kind; opened = m; lines = section_lines others })) kind (section_of others)))
    section-by name None = same.in_next name
    section-by name (Some kind) = ap (λ lines. Ok (record { name = name; kind = kind; lines = lines })) same.in_open

say_same-renumbered : (n m : ℕ) (xs : List (List ℕ)) → SaySame (numbered_from n xs) (numbered_from m xs)
say_same-renumbered n m [] = record { in_open = refl; in_next = λ name. refl }
say_same-renumbered n m (x ∷ xs) = say_same-behind n m x (numbered_from (n + 1) xs) (numbered_from (m + 1) xs) (say_same-renumbered (n + 1) (m + 1) xs)

-- lines with another that opens no section and says nothing, or without it
pub say_same-silent : (lines : List NumberedLine) (n : ℕ) (x : List ℕ) (xs : List (List ℕ)) → opens_section x ≡ false → trim (without_comment x) ≡ [] → SaySame (lines ++ numbered_from n (x ∷ xs)) (lines ++ numbered_from n xs)
say_same-silent [] n x xs closed nothing =
    let renumbered = say_same-renumbered (n + 1) n xs in
    record { in_open = rw (closed, nothing) renumbered.in_open; in_next = λ name. rw (section_kind-none x closed) (renumbered.in_next name) }
say_same-silent (line ∷ lines) n x xs closed nothing = say_same-behind line.number line.number line.text (lines ++ numbered_from n (x ∷ xs)) (lines ++ numbered_from n xs) (say_same-silent lines n x xs closed nothing)
