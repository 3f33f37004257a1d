-- What a line keeps of the bytes that went in.
use Rattle.std.specs.Prelude.{◌≡◌, ◌≢◌, ℕ, ◌≤◌, ◌==◌, List, [], ◌∷◌, ◌++◌, length, Bool, true, false, if◌then◌else◌}
use Rattle.std.specs.Io.KnownBytes.{IsAtEnd}
use Rattle.text_lines.specs.Blanks.{trim_start, trim_end, trim, IsTrimmed}
use Rattle.text_lines.specs.Lines.{strip_carriage_return}
use Rattle.script_lines.specs.Ahead.{Ahead, TakesBytes}
use Rattle.script_lines.specs.Words.{squashed}
use Rattle.script_lines.specs.declared.kept_line.Tail.{Tail}
use Rattle.script_lines.specs.declared.kept_line.Tail.TheVariants.{Whole, Blank, Cut}
use Rattle.script_lines.specs.declared.kept_line.KeptLine.{KeptLine}
use Rattle.script_lines.specs.declared.kept_line.LineFound.{LineFound}
use Rattle.script_lines.specs.declared.kept_line.LineFound.TheVariants as found

-- the bytes with each run of spaces cut to one; `after` says whether a space came before them
abbrev pub squash : Bool → List ℕ → List ℕ
squash after [] = []
squash after (b ∷ bs) =
    if b == 32 then (if after then squash true bs else b ∷ squash true bs) else b ∷ squash false bs

-- whether the last byte is a space; `after` answers where there is no byte
abbrev pub ends_in_space : Bool → List ℕ → Bool
ends_in_space after [] = after
ends_in_space after (b ∷ bs) = ends_in_space (b == 32) bs

-- what isn't kept: nothing, blanks alone, or more
abbrev pub IsRest : Tail → List ℕ → List ℕ → Type 0
IsRest Whole kept more = more ≡ []
IsRest Blank kept more = (trim_end more ≡ []) × (64 ≤ length kept)
IsRest Cut kept more = (trim_end more ≢ []) × (64 ≤ length kept)

-- of these bytes all was kept but the rest
pub record Holds (tail : Tail) (kept bytes : List ℕ) : Type 0 where
  pub more : List ℕ
  pub split : bytes ≡ kept ++ more
  pub rest : IsRest tail kept more

-- the line kept all of these bytes but the rest
abbrev pub Kept : KeptLine → List ℕ → Type 0
Kept line bytes = Holds line.tail line.kept.items bytes

-- of these bytes, without the blanks at their front and with each run of spaces cut to one, all was
-- kept but the rest
pub record TookBy (tail : Tail) (kept : List ℕ) (gap : Bool) (bytes : List ℕ) : Type 0 where
  pub holds : Holds tail kept (squash false (trim_start bytes))
  pub in_gap : ends_in_space false (trim_start bytes) ≡ gap

-- the line took these bytes so far
abbrev pub Took : KeptLine → List ℕ → Type 0
Took line bytes = TookBy line.tail line.kept.items line.gap bytes

-- the carriage return that waits for the next byte
abbrev pub waiting : Bool → List ℕ
waiting true = 13 ∷ []
waiting false = []

-- these bytes were seen, and all were taken but a carriage return that waits
pub record Saw (line : KeptLine) (seen : List ℕ) : Type 0 where
  pub taken : List ℕ
  pub split : seen ≡ taken ++ waiting line.waits
  pub stripped : strip_carriage_return seen ≡ taken
  pub took : Took line taken

-- a beginning was kept, of 64 bytes or more, and not all
pub record IsCut (kept all : List ℕ) : Type 0 where
  pub more : List ℕ
  pub split : all ≡ kept ++ more
  pub some : more ≢ []
  pub long : 64 ≤ length kept

-- all was kept but blanks behind it, or a beginning
abbrev pub KeepsBy : Tail → List ℕ → List ℕ → Type 0
KeepsBy Whole kept all = kept ≡ all
KeepsBy Blank kept all = kept ≡ all
KeepsBy Cut kept all = IsCut kept all

-- the line says these bytes, which are trimmed: it keeps their words, or a long beginning of them
pub record Says (line : KeptLine) (says : List ℕ) : Type 0 where
  pub trimmed : IsTrimmed says
  pub keeps : KeepsBy line.tail line.kept.items (squashed says)

-- a line with its end was taken, or the last line, or there was none
abbrev pub TakesLine : LineFound → Ahead → Ahead → List ℕ → KeptLine → Type 0
TakesLine found.Line old new seen line =
    TakesBytes old new (seen ++ 10 ∷ []) × Says line (trim (strip_carriage_return seen))
TakesLine found.Last old new seen line =
    TakesBytes old new seen × IsAtEnd new.bytes × (seen ≢ []) × Says line (trim seen)
TakesLine found.End old new seen line = (seen ≡ []) × TakesBytes old new [] × IsAtEnd new.bytes

-- the bytes of the line with its end
abbrev pub raw_of : LineFound → List ℕ → List ℕ
raw_of found.Line seen = seen ++ 10 ∷ []
raw_of found.Last seen = seen
raw_of found.End seen = seen
