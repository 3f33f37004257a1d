-- How a rule file is cut: the name of the rule, and the lines that say what the rule does.
use Rattle.std.specs.Prelude.{ℕ, ◌+◌, ◌==◌, ◌&&◌, Bool, false, not, nat_le, nat_eq, if◌then◌else◌, List, [], ◌∷◌, ◌++◌, length, drop, codes, Option, Some, None, option_and_then, Result, Ok, Err}
use Rattle.std.specs.List.{before_first, list_all, starts_with}
use Rattle.std.specs.Option.{option_map, option_map_or, ok_or}
use Rattle.std.specs.Str.{bytes_eq}
use Rattle.text_lines.specs.Blanks.{is_blank, trim}
use Rattle.text_lines.specs.Lines.{says}
use Rattle.rule_file.specs.declared.fault.RuleFault.{RuleFault}
use Rattle.rule_file.specs.declared.fault.RuleFault.TheVariants.{NoRuleLine, NoTable}
use Rattle.rule_file.specs.declared.text.SectionKind.{SectionKind}
use Rattle.rule_file.specs.declared.text.SectionKind.TheVariants.{Table, Tree}
use Rattle.basics.specs.Results.{◌>>=◌}

-- a line and its number in the file, whose first line has the number 1
pub record NumberedLine : Type 0 where
  pub number : ℕ
  pub text : List ℕ

-- a section of a file: its kind, the number of the line that opens it, and its lines
pub record Section : Type 0 where
  pub kind : SectionKind
  pub opened : ℕ
  pub lines : List NumberedLine

-- a file: the name of its rule, and the section that says what the rule does
pub record RuleFile : Type 0 where
  pub name : List ℕ
  pub section : Section

-- lines with their numbers, from n on
abbrev pub numbered_from : ℕ → List (List ℕ) → List NumberedLine
numbered_from n [] = []
numbered_from n (text ∷ texts) = record { number = n; text = text } ∷ numbered_from (n + 1) texts

-- what follows `front` in bytes that begin with it
abbrev pub after : List ℕ → List ℕ → Option (List ℕ)
after front bytes =
    if starts_with nat_eq bytes front then Some (drop (length front) bytes) else None

-- a byte that may stand in a rule's name: printable, and neither a blank nor a colon
abbrev pub is_name_byte : ℕ → Bool
is_name_byte b = nat_le 33 b && nat_le b 126 && not (b == 58)

-- one byte or more, each of which may stand in a rule's name
abbrev pub is_name : List ℕ → Bool
is_name name = not (length name == 0) && list_all is_name_byte name

-- the name that a line gives to the rule, if it does
abbrev pub rule_name : List ℕ → Option (List ℕ)
rule_name line =
    option_and_then (λ name. if is_name name then Some name else None) (after (codes "@RULE ") line)

-- the name that the first line that isn't blank gives, and the lines after it
abbrev pub named : List NumberedLine → Result (List ℕ × List NumberedLine) RuleFault
named [] = Err NoRuleLine
named (line ∷ lines) =
    if length line.text == 0 then named lines
    else ok_or (option_map (λ name. (name, lines)) (rule_name line.text)) NoRuleLine

-- a line that begins with @ opens a section, and so ends the one before
abbrev pub opens_section : List ℕ → Bool
opens_section [] = false
opens_section (b ∷ bs) = b == 64

-- the bytes up to the first blank
abbrev pub first_word : List ℕ → List ℕ
first_word line = before_first is_blank line

-- the kind of the section that a line opens, of those that say what a rule does
abbrev pub section_kind : List ℕ → Option SectionKind
section_kind line =
    if bytes_eq (first_word line) (codes "@TABLE") then Some Table
    else (if bytes_eq (first_word line) (codes "@TREE") then Some Tree else None)

-- what stands before the first #
abbrev pub without_comment : List ℕ → List ℕ
without_comment line = before_first (λ b. b == 35) line

-- a line of a section, unless it says nothing
abbrev pub unless_blank : ℕ → List ℕ → List NumberedLine
unless_blank number [] = []
unless_blank number (b ∷ bs) = record { number = number; text = b ∷ bs } ∷ []

-- what a line of a section says, without its comment
abbrev pub said : NumberedLine → List NumberedLine
said line = unless_blank line.number (trim (without_comment line.text))

-- what the lines of a section say, up to the line that opens the next one
abbrev pub section_lines : List NumberedLine → List NumberedLine
section_lines [] = []
section_lines (line ∷ lines) =
    if opens_section line.text then [] else said line ++ section_lines lines

-- the first section that says what the rule does
abbrev pub section_of : List NumberedLine → Result Section RuleFault
section_of [] = Err NoTable
section_of (line ∷ lines) =
    option_map_or
    (λ kind. Ok (record { kind = kind; opened = line.number; lines = section_lines lines }))
    (section_kind line.text) (section_of lines)

-- what a file is, or why it is none
abbrev pub file_of : List ℕ → Result RuleFile RuleFault
file_of bytes = do
  found ← named (numbered_from 1 (says bytes))
  section ← section_of found.1
  Ok (record { name = found.0; section = section })
