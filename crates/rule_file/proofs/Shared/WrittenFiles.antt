-- Rule files that are written line by line.
use Rattle.std.proofs.Common.{◌≡◌, ◌∙◌, ap, refl, ℕ, ◌+◌, ◌<◌, ◌≤◌, ◌==◌, nat_le, ◌&&◌, Bool, true, false, not, List, [], ◌∷◌, ◌++◌, length, take, Some, Ok, codes, decimal, arith}
use Rattle.std.specs.List.{AllByRecursion, list_all}
use Rattle.std.proofs.Math.Seq.{take-length}
use Rattle.std.proofs.lemmas.Bool.{and_parts}
use Rattle.std.proofs.lemmas.Bool.Decides.{nat_tests}
use Rattle.basics.proofs.Shared.Lists.{all_append, all_so}
use Rattle.text_lines.specs.LineEnds.{text_of_lines}
use Rattle.text_lines.proofs.Shared.ByteRanges.{IsDigit, IsPrinted, IsVisible, all_tested, differs, digit-visible, is_visible, printed-tested, visible-printed}
use Rattle.text_lines.proofs.Shared.Decimals.{IsWide, number_of-decimal}
use Rattle.text_lines.proofs.Shared.Pieces.{all-past}
use Rattle.text_lines.proofs.Shared.PrintedLines.{IsLine, ends-append, ends-visible, line-between, line-visible, says-lines}
use Rattle.rule_file.specs.declared.text.SectionKind.{SectionKind}
use Rattle.rule_file.specs.RuleFile.{file_of, is_name, is_name_byte, numbered_from, opens_section, section_kind, section_lines, unless_blank, without_comment}
use Rattle.rule_file.specs.States.{number_within}

-- a byte that begins no comment
abbrev pub IsPlain : ℕ → Type 0
IsPlain b = (b == 35) ≡ false

-- a line of a section that is said as it stands
pub record IsPlainLine (line : List ℕ) : Type 0 where
  pub is_line : IsLine line
  pub plain : AllByRecursion IsPlain line
  pub some : 0 < length line
  pub closed : opens_section line ≡ false

without_comment-plain : (line : List ℕ) → AllByRecursion IsPlain line → without_comment line ≡ line
without_comment-plain line h = ap (λ n. take n line) (all-past (λ b. b == 35) line h) ∙ take-length line

unless-some : (n : ℕ) (line : List ℕ) → 0 < length line → unless_blank n line ≡ record { number = n; text = line } ∷ []
unless-some n [] h = absurd (omega arith)
unless-some n (b ∷ bs) h = refl

section_lines-plain : (n : ℕ) (lines : List (List ℕ)) → AllByRecursion IsPlainLine lines → section_lines (numbered_from n lines) ≡ numbered_from n lines
section_lines-plain n [] h = refl
section_lines-plain n (line ∷ lines) h =
    let first = h.0 in
    let is = first.is_line in
    rw (first.closed, without_comment-plain line first.plain, is.trimmed, unless-some n line first.some, section_lines-plain (n + 1) lines h.1) refl

-- a visible byte that begins neither a comment nor a section
pub record IsSolid (b : ℕ) : Type 0 where
  pub visible : IsVisible b
  pub plain : IsPlain b
  pub closed : (b == 64) ≡ false

abbrev pub is_solid : ℕ → Bool
is_solid b = is_visible b && (not (b == 35) && not (b == 64))

pub solid-tested : (bs : List ℕ) → list_all is_solid bs ≡ true → AllByRecursion IsSolid bs
solid-tested bs h = all_tested IsSolid is_solid bs (λ b k. record { visible = (grind (arith, nat_tests), grind (arith, nat_tests)); plain = grind (arith, nat_tests); closed = grind (arith, nat_tests) }) h

pub digit-plain : (b : ℕ) → IsDigit b → IsPlain b
digit-plain b h = let low : 48 ≤ b = h.0 in differs b 35 (λ e. omega arith)

pub digit-solid : (b : ℕ) → IsDigit b → IsSolid b
digit-solid b h = let high : b ≤ 57 = h.1 in record { visible = digit-visible b h; plain = digit-plain b h; closed = differs b 64 (λ e. omega arith) }

-- such bytes, one at least, are a line that is said as it stands
pub solid-line : (line : List ℕ) → 0 < length line → AllByRecursion IsSolid line → IsPlainLine line
solid-line [] some h = absurd (omega arith)
solid-line (b ∷ bs) some h = record {
  is_line = line-visible (b ∷ bs) some (all_so IsSolid IsVisible (b ∷ bs) (λ c k. k.visible) h);
  plain = all_so IsSolid IsPlain (b ∷ bs) (λ c k. k.plain) h;
  some = some;
  closed = (let first = h.0 in first.closed);
}

name-visible : (name : List ℕ) → list_all is_name_byte name ≡ true → AllByRecursion IsVisible name
name-visible name h = all_tested IsVisible is_name_byte name (λ b k. (grind (arith, nat_tests), grind (arith, nat_tests))) h

-- the line that names the rule
rule-line : (name : List ℕ) → 0 < length name → AllByRecursion IsVisible name → IsLine (codes "@RULE " ++ name)
rule-line name some visible =
    line-between 64 (codes "RULE " ++ name) (omega arith, omega arith)
    (all_append IsPrinted (codes "RULE ") name (printed-tested (codes "RULE ") refl) (all_so IsVisible IsPrinted name visible-printed visible))
    (ends-append (codes "@RULE ") name (ends-visible name some visible))

some-name : (name : List ℕ) → is_name name ≡ true → 0 < length name
some-name [] h = absurd cc
some-name (b ∷ bs) h = omega arith

-- the file of a rule's name and one section, which such lines are
pub file-written : (name : List ℕ) (kind : SectionKind) (opening : List ℕ) (lines : List (List ℕ)) → is_name name ≡ true → IsLine opening → section_kind opening ≡ Some kind → AllByRecursion IsPlainLine lines
    → file_of (text_of_lines ((codes "@RULE " ++ name) ∷ opening ∷ lines)) ≡ Ok (record { name = name; section = record { kind = kind; opened = 2; lines = numbered_from 3 lines } })
file-written name kind opening lines h opens is plain =
    let visible = name-visible name (and_parts (not (length name == 0)) (list_all is_name_byte name) h).1 in
    let said = says-lines ((codes "@RULE " ++ name) ∷ opening ∷ lines) (rule-line name (some-name name h) visible, (opens, all_so IsPlainLine IsLine lines (λ l k. k.is_line) plain)) in
    rw (said, h) (grind (arith, is, section_lines-plain 3 lines plain))

-- a number within its limits reads back
pub within-read : (least most n : ℕ) → IsWide n → least ≤ n → n ≤ most → number_within least most (decimal n) ≡ Some n
within-read least most n wide low high =
    let above : nat_le least n ≡ true = grind (arith, nat_tests) in
    let below : nat_le n most ≡ true = grind (arith, nat_tests) in
    rw (number_of-decimal n wide, above, below) refl
