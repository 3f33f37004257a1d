-- What the command line may say, behind the program's name.
use Rattle.std.specs.Prelude.{◌≡◌, ◌≢◌, ◌⊎◌, ◌≤◌, ℕ, Bool, true, List, [], ◌∷◌, ◌++◌, All, ⊤, Result, IfErr, IfOk, IsErrAnd, MatchResult, codes, if◌then◌else◌}
use Rattle.std.specs.IoError.{error_kind}
use Rattle.std.specs.Str.Parse.{IsNumeral, digits_value}
use Rattle.std.specs.declared.io.Error.{Error}
use Rattle.std.specs.declared.io.ErrorKind.TheVariants.{OutOfMemory}
use Rattle.desk_words.specs.Fault.{IsHelp, IsRefusal, IsVersion}
use Rattle.desk_words.specs.Setting.{least_of, most_of, name_of, progress_name, usual_options}
use Rattle.desk_words.specs.declared.settings.Options.{Options}
use Rattle.desk_words.specs.declared.settings.Setting.{Setting}
use Rattle.desk_words.specs.declared.settings.Setting.TheVariants.{Workers, Facts, Squares}
use Rattle.desk_words.specs.declared.words.OptionFault.{OptionFault}
use Rattle.desk_words.specs.declared.words.OptionFault.TheVariants.{NoMemory}

-- a choice: of a number by a setting's option, with its digits, and whether they are a word of
-- their own; or of progress
pub data Choice : Type 0 where
  numbered : Setting → List ℕ → Bool → Choice
  progress : Choice

-- the name of its option
abbrev pub option_of : Choice → List ℕ
option_of (numbered setting digits apart) = name_of setting
option_of progress = progress_name

-- the words of a choice: `--NAME N` or `--NAME=N`, or `--progress`
abbrev pub words_of : Choice → List (List ℕ)
words_of (numbered setting digits apart) =
    if apart then (codes "--" ++ name_of setting) ∷ digits ∷ []
    else (codes "--" ++ name_of setting ++ codes "=" ++ digits) ∷ []
words_of progress = (codes "--" ++ progress_name) ∷ []

-- the words of all the choices
abbrev pub all_words : List Choice → List (List ℕ)
all_words [] = []
all_words (choice ∷ choices) = words_of choice ++ all_words choices

-- its digits are a number of the setting's range
abbrev pub IsInOrder : Choice → Type 0
IsInOrder (numbered setting digits apart) =
    IsNumeral 10 digits
    × (least_of setting ≤ digits_value 10 digits)
    × (digits_value 10 digits ≤ most_of setting)
IsInOrder progress = ⊤

-- no option is chosen twice
abbrev pub AreOnce : List Choice → Type 0
AreOnce [] = ⊤
AreOnce (choice ∷ choices) =
    All (λ other. option_of other ≢ option_of choice) choices × AreOnce choices

-- the words are such choices, each option at most once, and a setting with a number of its range
pub record AsksWith (choices : List Choice) (words : List (List ℕ)) : Type 0 where
  pub spelled : words ≡ all_words choices
  pub numbers : All IsInOrder choices
  pub once : AreOnce choices

-- the options with another number for a setting
abbrev pub with_number : Setting → ℕ → Options → Options
with_number Workers n options = record options { workers = n }
with_number Facts n options = record options { facts = n }
with_number Squares n options = record options { squares = n }

-- the options with what is chosen
abbrev pub with_choice : Choice → Options → Options
with_choice (numbered setting digits apart) options =
    with_number setting (digits_value 10 digits) options
with_choice progress options = record options { progress = true }

-- what the choices come to
abbrev pub chosen_by : List Choice → Options
chosen_by [] = usual_options
chosen_by (choice ∷ choices) = with_choice choice (chosen_by choices)

-- a word for help is asked with, and no other
abbrev pub AsksForHelp : List (List ℕ) → Type 0
AsksForHelp words = (words ≡ codes "-h" ∷ []) ⊎ (words ≡ codes "--help" ∷ [])

-- a word for the version is asked with, and no other
abbrev pub AsksForVersion : List (List ℕ) → Type 0
AsksForVersion words = (words ≡ codes "-V" ∷ []) ⊎ (words ≡ codes "--version" ∷ [])

-- the first word is no option: it begins with no dash
abbrev pub BeginsPlain : List (List ℕ) → Type 0
BeginsPlain [] = ⊥
BeginsPlain ([] ∷ words) = ⊤
BeginsPlain ((b ∷ word) ∷ words) = b ≢ 45

-- what the words come to
pub record ReadsWords (words : List (List ℕ)) (result : Result Options OptionFault) : Type 0 where
  -- options, each at most once, and a setting with a number of its range, are chosen, and refused
  -- but for memory
  pub given : (choices : List Choice) → AsksWith choices words
      → MatchResult result (λ options. options ≡ chosen_by choices) (λ fault. fault ≡ NoMemory)
  -- words that begin with no option are refused
  pub plain : BeginsPlain words → IsErrAnd result IsRefusal
  -- help is answered where it is asked for
  pub help : AsksForHelp words → IsErrAnd result IsHelp
  -- and the version likewise
  pub version : AsksForVersion words → IsErrAnd result IsVersion

-- what the words come to that a program was started with: one that is no UTF-8 is refused
abbrev pub Checks : {V : Type 0} → (V → List (List ℕ)) → Result V Error → Result Options OptionFault
    → Type 0
Checks texts given result =
    IfOk given (λ words. ReadsWords (texts words) result)
    × IfErr given
    (λ error. error_kind error ≡ OutOfMemory → IsErrAnd result (λ fault. fault ≡ NoMemory))
    × IfErr given (λ error. error_kind error ≢ OutOfMemory → IsErrAnd result IsRefusal)
