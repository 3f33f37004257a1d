-- What a rule file means, however its lines are written: each statement is proved by a function of
-- the same name.
use Rattle.std.specs.Prelude.{◌≡◌, ◌≢◌, ℕ, ◌==◌, Bool, true, false, List, [], ◌∷◌, ◌++◌, map, Result, Ok, Err}
use Rattle.std.specs.List.{AllByRecursion}
use Rattle.text_lines.specs.Blanks.{IsBlank, trim}
use Rattle.text_lines.specs.LineEnds.{with_carriage_returns}
use Rattle.text_lines.specs.Lines.{NoLineFeed, says, strip_carriage_return}
use Rattle.basics.specs.Results.{◌>>=◌}
use Rattle.rule_file.specs.declared.fault.RuleFault.{RuleFault}
use Rattle.rule_file.specs.declared.fault.RuleFault.TheVariants.{NoRuleLine}
use Rattle.rule_file.specs.declared.text.SectionKind.{SectionKind}
use Rattle.rule_file.specs.RuleFile.{RuleFile, file_of, opens_section}

-- what a file says, whichever of its lines say it: the rule's name, the kind of the section, and
-- what the section's lines say
pub record Saying : Type 0 where
  pub name : List ℕ
  pub kind : SectionKind
  pub lines : List (List ℕ)

-- a file without the numbers of its lines
abbrev pub saying : RuleFile → Saying
saying file =
    record {
      name = file.name;
      kind = file.section.kind;
      lines = map (λ line. line.text) file.section.lines;
    }

-- what the file of some bytes says, or why it is none
abbrev pub saying_of : List ℕ → Result Saying RuleFault
saying_of bytes = file_of bytes >>= λ file. Ok (saying file)

-- lines that line feeds end, of which one names the rule
abbrev pub NamesRule : List ℕ → Type 0
NamesRule lines = file_of (lines ++ 10 ∷ []) ≢ Err NoRuleLine

-- bytes of one line, of which the last is no carriage return
pub record IsOneLine (line : List ℕ) : Type 0 where
  pub one : NoLineFeed line
  pub unended : strip_carriage_return line ≡ line

-- a line that is blank or a comment: it says nothing, or begins with #
abbrev pub is_remark : List ℕ → Bool
is_remark [] = true
is_remark (b ∷ bs) = b == 35

-- texts whose lines say the same are one file
abbrev pub LinesSayAll : Type 0
LinesSayAll = (text other : List ℕ) → says text ≡ says other → file_of text ≡ file_of other

-- a text with a carriage return before each line feed is the file that it is without them
abbrev pub LineEndsDoNotMatter : Type 0
LineEndsDoNotMatter =
    (text : List ℕ) → AllByRecursion (λ b. b ≢ 13) text
    → file_of (with_carriage_returns text) ≡ file_of text

-- blanks at the ends of a line change nothing
abbrev pub BlanksDoNotMatter : Type 0
BlanksDoNotMatter =
    (before front line back after : List ℕ) → IsOneLine line → AllByRecursion IsBlank front
    → AllByRecursion IsBlank back
    → file_of (before ++ 10 ∷ ((front ++ (line ++ back)) ++ 10 ∷ after))
    ≡ file_of (before ++ 10 ∷ (line ++ 10 ∷ after))

-- behind the line that names the rule, a comment at the end of a line that opens no section changes
-- nothing
abbrev pub CommentsDoNotMatter : Type 0
CommentsDoNotMatter =
    (before line comment after : List ℕ) → NamesRule before → IsOneLine line → NoLineFeed comment
    → opens_section (trim line) ≡ false
    → file_of (before ++ 10 ∷ ((line ++ 35 ∷ comment) ++ 10 ∷ after))
    ≡ file_of (before ++ 10 ∷ (line ++ 10 ∷ after))

-- there, a blank line or a comment between two lines changes nothing but the numbers of the lines
-- behind it
abbrev pub RemarksDoNotMatter : Type 0
RemarksDoNotMatter =
    (before line after : List ℕ) → NamesRule before → NoLineFeed line
    → is_remark (trim (strip_carriage_return line)) ≡ true
    → saying_of (before ++ 10 ∷ (line ++ 10 ∷ after)) ≡ saying_of (before ++ 10 ∷ after)
