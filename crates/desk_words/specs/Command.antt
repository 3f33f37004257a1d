-- What the command makes of words, as `clap` defines it.
use Rattle.std.specs.Prelude.{◌≡◌, ◌⊎◌, ℕ, Bool, List, [], Option, Some, None, MatchResult, Result, codes, false, true}
use Rattle.clap.specs.Simple.{on_top}
use Rattle.clap.specs.Walk.{first_of}
use Rattle.clap.specs.Words.{App, HasKind, Rule, Text, fault_of, kind_of, matches_of, new_app, new_rule, one_of, rule_of, with_rule}
use Rattle.clap.specs.declared.builder.arg.Arg.{Arg}
use Rattle.clap.specs.declared.builder.action.ArgAction.TheVariants.{Set, SetTrue}
use Rattle.clap.specs.declared.error.Error.{Error}
use Rattle.clap.specs.declared.error.kind.ErrorKind.TheVariants.{OutOfMemory, ValueValidation}
use Rattle.desk_words.specs.Bounded.{IsNumberWithin, number_in}
use Rattle.desk_words.specs.Setting.{least_of, most_of, name_of, number_of, progress_name, usual_options}
use Rattle.desk_words.specs.declared.settings.Options.{Options}
use Rattle.desk_words.specs.declared.settings.Setting.{Setting}
use Rattle.desk_words.specs.declared.settings.Setting.TheVariants.{Workers, Facts, Squares}

-- the option `--NAME N` of a setting
abbrev pub setting_rule : Setting → Rule
setting_rule setting = record (new_rule (name_of setting)) {
  long = Some (name_of setting);
  action = Some Set;
  value_names = 1;
}

-- the option `--progress`
abbrev pub progress_rule : Rule
progress_rule = record (new_rule progress_name) { long = Some progress_name; action = Some SetTrue }

-- the argument is that option, of this command alone
pub record IsOption (rule : Rule) (arg : Arg) : Type 0 where
  pub same : rule_of arg ≡ rule
  pub own : arg.global ≡ false

-- a command with a version that takes the words behind the program's name
abbrev pub nameless_app : Text → App
nameless_app name =
    on_top (λ top. record top { no_binary_name = true; has_version = true }) (new_app name)

-- the command `desk`, which has the settings, progress, help and the version
abbrev pub desk : App
desk =
    with_rule
    (with_rule
    (with_rule (with_rule (nameless_app (codes "desk")) (setting_rule Workers))
    (setting_rule Facts))
    (setting_rule Squares))
    progress_rule

-- the text behind a setting's option
abbrev pub text_of : Setting → List Text → Option Text
text_of setting words = first_of (name_of setting) (matches_of desk words)

-- what the words say of progress: `true`, or else `false`
abbrev pub progress_text : List Text → Option Text
progress_text words = one_of progress_name (matches_of desk words)

-- where there is a text, n is the number in it, which lies in the setting's range; else it is the
-- usual one
abbrev pub IsNumberFor : Setting → Option Text → ℕ → Type 0
IsNumberFor setting None n = n ≡ number_of setting usual_options
IsNumberFor setting (Some text) n =
    (n ≡ number_in text) × IsNumberWithin (least_of setting) (most_of setting) text

-- that there is no such number: the text is none of the setting's range, or memory ran out
abbrev pub IsNoNumber : Setting → Option Text → Error → Type 0
IsNoNumber setting text error = (kind_of error ≡ OutOfMemory)
    ⊎ ((kind_of error ≡ ValueValidation) × ((n : ℕ) → IsNumberFor setting text n → ⊥))

-- a setting's number, where this is the text behind its option
abbrev pub ReadsNumber : Setting → Option Text → Result ℕ Error → Type 0
ReadsNumber setting text result =
    MatchResult result (IsNumberFor setting text) (IsNoNumber setting text)

-- the text says yes or no, and b is that
pub record Says (text : Option Text) (b : Bool) : Type 0 where
  pub yes : text ≡ Some (codes "true") → b ≡ true
  pub no : text ≡ Some (codes "false") → b ≡ false

-- `clap` refuses nothing in the words, and they choose each number of the options, and whether
-- progress is shown
pub record Chooses (words : List Text) (options : Options) : Type 0 where
  pub taken : fault_of desk words ≡ []
  pub numbers : (setting : Setting)
      → IsNumberFor setting (text_of setting words) (number_of setting options)
  pub progress : Says (progress_text words) options.progress

-- they choose some options
abbrev pub ChoosesSome : List Text → Type 0
ChoosesSome words = (options : Options) × Chooses words options

-- `clap` refuses nothing in the words, and the error says that a setting has no number of its
-- range, so that they choose no options
pub record LacksNumber (words : List Text) (error : Error) : Type 0 where
  pub kind : kind_of error ≡ ValueValidation
  pub taken : fault_of desk words ≡ []
  pub none : ChoosesSome words → ⊥

-- why the words are not read: `clap` refuses them or answers what they ask for, or a setting has no
-- number of its range, or memory ran out
abbrev pub IsRefusedBy : List Text → Error → Type 0
IsRefusedBy words error = HasKind (fault_of desk words) error ⊎ LacksNumber words error
