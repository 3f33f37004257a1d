-- A script that is read a line at a time.
use Rattle.std.specs.Prelude.{◌≡◌, ℕ, ◌+◌, List, [], ◌∷◌, ◌++◌, Bool, true, false, Option, length}
use Rattle.std.specs.Io.KnownBytes.{IsAtEnd}
use Rattle.text_lines.specs.Lines.{End, Ended, Broken, Line, lines_until}
use Rattle.script_lines.specs.Ahead.{Ahead, TakesBytes}
use Rattle.script_lines.specs.KeptLine.{Says}
use Rattle.script_lines.specs.ScriptLine.{NoneEnds, raw_bytes, is_end}
use Rattle.script_lines.specs.KeptText.{IsText, GrowsText}
use Rattle.script_lines.specs.declared.kept_line.KeptLine.{KeptLine}
use Rattle.script_lines.specs.declared.kept_line.LineFound.{LineFound}
use Rattle.script_lines.specs.declared.kept_line.LineFound.TheVariants as found
use Rattle.script_lines.specs.declared.reader.TextFound.{TextFound}
use Rattle.script_lines.specs.declared.reader.TextFound.TheVariants as text

-- what may follow: after the last line nothing does
abbrev pub MayFollow : Bool → End → List ℕ → Type 0
MayFollow false stop more = Unit {0}
MayFollow true stop more = (stop ≡ Ended) × (more ≡ [])

-- a line was taken: it is the first of the lines, whatever may follow it
pub record LineTaken (last : Bool) (old new : Ahead) (kept : KeptLine) : Type 0 where
  pub line : Line
  pub taken : TakesBytes old new line.raw
  pub law : (stop : End) (more : List ℕ) → MayFollow last stop more
      → lines_until stop (line.raw ++ more) ≡ line ∷ lines_until stop more
  pub says : Says kept line.says
  pub at_end : last ≡ true → IsAtEnd new.bytes

-- there was no line
abbrev pub EndsHere : Ahead → Ahead → Type 0
EndsHere old new = TakesBytes old new [] × IsAtEnd new.bytes

-- what was found where a line could begin
abbrev pub FindsLine : LineFound → Ahead → Ahead → KeptLine → Type 0
FindsLine found.Line old new kept = LineTaken false old new kept
FindsLine found.Last old new kept = LineTaken true old new kept
FindsLine found.End old new kept = EndsHere old new

-- the same, where the line's bytes went into a text
abbrev pub TakesInto : LineFound → Ahead → Ahead → KeptLine → Option (List ℕ) → Option (List ℕ) → Type 0
TakesInto found.Line old new kept before after =
    (t : LineTaken false old new kept) × GrowsText before after t.line.raw
TakesInto found.Last old new kept before after =
    (t : LineTaken true old new kept) × GrowsText before after t.line.raw
TakesInto found.End old new kept before after = EndsHere old new

-- how many lines were taken then
abbrev pub next_number : LineFound → ℕ → ℕ
next_number found.Line n = n + 1
next_number found.Last n = n + 1
next_number found.End n = n

-- the reading stopped within a line
pub record StopsInLine (old new : Ahead) : Type 0 where
  pub seen : List ℕ
  pub taken : TakesBytes old new seen
  pub none : lines_until Broken seen ≡ []

-- a text was taken, and the line that ends it: they are the first of the lines, whatever may follow
pub record TextTaken (last : Bool) (text : Option (List ℕ)) (old new : Ahead) (n m : ℕ) : Type 0
  where
    pub lines : List Line
    pub closing : Line
    pub taken : TakesBytes old new (raw_bytes lines ++ closing.raw)
    pub law : (stop : End) (more : List ℕ) → MayFollow last stop more
        → lines_until stop ((raw_bytes lines ++ closing.raw) ++ more) ≡ lines
        ++ closing ∷ lines_until stop more
    pub inside : NoneEnds lines
    pub ends : is_end closing.says ≡ true
    pub is : IsText text (raw_bytes lines)
    pub number : m ≡ n + length lines + 1
    pub at_end : last ≡ true → IsAtEnd new.bytes

-- these lines came, none of which ends a text, until reading stopped in this way
pub record NoEndAmong (stop : End) (old new : Ahead) : Type 0 where
  pub bytes : List ℕ
  pub taken : TakesBytes old new bytes
  pub inside : NoneEnds (lines_until stop bytes)

-- a text was read, or the script ended in it
abbrev pub ReadsText : TextFound → Ahead → Ahead → ℕ → ℕ → Type 0
ReadsText (text.Ended kept last) old new n m = TextTaken last kept old new n m
ReadsText text.NoEnd old new n m = NoEndAmong Ended old new × IsAtEnd new.bytes
