-- The walk of a parse over the words of choices.
use Rattle.clap.proofs.OnLiterals.{clap_on_literals}
use Rattle.clap.specs.Faults.{settle_fault, turn_fault, use_fault, walk_fault}
use Rattle.clap.specs.Kinds.{Kinds}
use Rattle.clap.specs.Simple.{Shape, built, filled, with_index}
use Rattle.clap.specs.Walk.{Held, Row, Rule, Text, Walk, at_row, has_row, more_values, reading_by, settled_rows, used, walked, with_values, without}
use Rattle.clap.specs.Walk.Waiting.{idle, option}
use Rattle.clap.specs.declared.parser.matches.ValueSource.TheVariants.{CommandLine}
use Rattle.desk_words.specs.Command.{desk, progress_rule, setting_rule}
use Rattle.desk_words.specs.Setting.{name_of, progress_name}
use Rattle.desk_words.specs.Words.{Choice, IsInOrder, option_of, words_of}
use Rattle.desk_words.specs.Words.Choice.{numbered, progress}
use Rattle.desk_words.specs.declared.settings.Setting.{Setting}
use Rattle.std.proofs.Common.{Bool, List, None, Option, Some, [], ap, append-nil, arith, codes, false, fold, refl, subst, sym, true, ℕ, ◌++◌, ◌==◌, ◌∙◌, ◌∷◌, ◌≡◌}
use Rattle.std.proofs.lemmas.Bool.{ne_eqb}
use Rattle.std.proofs.lemmas.Str.Parse.{digit_from_value}
use Rattle.std.specs.Str.Parse.{IsNumeral}

-- the command as it is built, and its options
abbrev pub shape : Shape
shape = (built desk).top

abbrev pub desk_rules : List Rule
desk_rules = shape.rules

-- the option of a choice there
abbrev pub rule_in : Choice → Rule
rule_in (numbered s digits apart) = with_index 1 (filled (setting_rule s))
rule_in progress = with_index 1 (filled progress_rule)

-- the values that it is used with, and their text
abbrev pub values_for : Choice → List Text
values_for (numbered s digits apart) = digits ∷ []
values_for progress = []

abbrev pub text_for : Choice → Text
text_for (numbered s digits apart) = digits
text_for progress = codes "true"

-- the row of a choice
abbrev pub row_for : Choice → Row
row_for choice = record { id = option_of choice; values = text_for choice ∷ []; count = None; source = Some CommandLine; reading = reading_by (rule_in choice) }

abbrev pub Pending : Type 0
Pending = Option (Text × List Text)

abbrev pub held : List Row → Pending → Held
held rows pending = record { rows = rows; pending = pending; skip = 0 }

-- the walk between two choices
abbrev pub between : List Row → Pending → Walk
between rows pending = record { held = held rows pending; waiting = idle; position = 1; is_trailing = false; stopped = None }

-- the walk behind the name of a setting
abbrev behind : Setting → List Row → Walk
behind s rows = record { held = held rows (Some (name_of s, [])); waiting = option (name_of s); position = 1; is_trailing = false; stopped = None }

abbrev dashed : Text → Text
dashed name = codes "--" ++ name

-- the word of a choice that has but one
abbrev word_of : Choice → Text
word_of (numbered s digits apart) = codes "--" ++ name_of s ++ codes "=" ++ digits
word_of progress = dashed progress_name

-- a choice passes where its option has no row yet
use_passes : (choice : Choice) (rows : List Row) → has_row (option_of choice) rows ≡ false → use_fault false (rule_in choice) (values_for choice) rows ≡ []
unfolding clap_on_literals
use_passes (numbered s digits apart) rows fresh = rw fresh refl
use_passes progress rows fresh = rw fresh refl

-- and puts its row behind the others
put_behind : (id : Text) (change : Row → List Row) (missing : List Row) (rows : List Row) → has_row id rows ≡ false → at_row id change missing rows ≡ rows ++ missing
put_behind id change missing [] fresh = refl
put_behind id change missing (r ∷ rows) fresh = grind (arith, put_behind id change missing rows)

used_as_row : (choice : Choice) (rows : List Row) → used (rule_in choice) (values_for choice) rows
    ≡ with_values (option_of choice) (reading_by (rule_in choice)) CommandLine (text_for choice ∷ []) (without (option_of choice) rows)
used_as_row (numbered s digits apart) rows = refl
used_as_row progress rows = refl

used_puts : (choice : Choice) (rows : List Row) → has_row (option_of choice) rows ≡ false → used (rule_in choice) (values_for choice) rows ≡ rows ++ row_for choice ∷ []
used_puts choice rows fresh =
    let id = option_of choice in
    let out : without id rows ≡ rows = put_behind id (λ _. []) [] rows fresh ∙ append-nil rows in
    used_as_row choice rows ∙ ap (with_values id (reading_by (rule_in choice)) CommandLine (text_for choice ∷ [])) out
    ∙ put_behind id (more_values CommandLine (text_for choice ∷ [])) (row_for choice ∷ []) rows fresh

-- what is pending settles, and then these are the rows
pub record Stands (rows before : List Row) (pending : Pending) : Type 0 where
  pub settles : settle_fault desk_rules false (held before pending) ≡ []
  pub are : settled_rows desk_rules pending before ≡ rows

-- what a walk makes of words: why they are refused, and where it ends
abbrev pub run : Walk → List Text → Kinds × Walk
run w words = (walk_fault shape [] w words, fold (walked desk_rules []) w words)

-- from one place between choices the words lead to another, whatever follows
pub record Leads (before : List Row) (pending : Pending) (words : List Text) (rows : List Row) : Type 0 where
  pub after : List Row
  pub waits : Pending
  pub stands : Stands rows after waits
  pub runs : (more : List Text) → run (between before pending) (words ++ more) ≡ run (between after waits) more

-- a word that isn't refused, and where it leads
abbrev Passes : Walk → Text → Walk → Type 0
Passes w word after = (turn_fault shape [] w word ≡ []) × (walked desk_rules [] w word ≡ after)

run_word : (w after : Walk) (word : Text) (more : List Text) → Passes w word after → run w (word ∷ more) ≡ run after more
unfolding walk_fault
run_word w after word more passes = rw (passes.0, passes.1) refl

-- a choice of one word
word_passes : (choice : Choice) (rows : List Row) (pending : Pending) → settle_fault desk_rules false (held rows pending) ≡ []
    → use_fault false (rule_in choice) (values_for choice) (settled_rows desk_rules pending rows) ≡ []
    → Passes (between rows pending) (word_of choice) (between (used (rule_in choice) (values_for choice) (settled_rows desk_rules pending rows)) None)
unfolding clap_on_literals
word_passes (numbered s digits apart) rows pending settles passes = (grind arith, grind arith)
word_passes progress rows pending settles passes = (rw (settles, passes) refl, refl)

word_leads : (choice : Choice) (rows before : List Row) (pending : Pending) → Stands rows before pending → has_row (option_of choice) rows ≡ false
    → Leads before pending (word_of choice ∷ []) (rows ++ row_for choice ∷ [])
word_leads choice rows before pending stands fresh =
    let settled = settled_rows desk_rules pending before in
    let clear : has_row (option_of choice) settled ≡ false = ap (has_row (option_of choice)) stands.are ∙ fresh in
    record {
      after = used (rule_in choice) (values_for choice) settled;
      waits = None;
      stands = record { settles = refl; are = used_puts choice settled clear ∙ ap (λ r. r ++ row_for choice ∷ []) stands.are };
      runs = λ more. run_word (between before pending) _ (word_of choice) more (word_passes choice before pending stands.settles (use_passes choice settled clear));
    }

-- a choice of two words: the name of its setting, and the digits
name_passes : (s : Setting) (rows : List Row) (pending : Pending) → settle_fault desk_rules false (held rows pending) ≡ []
    → Passes (between rows pending) (dashed (name_of s)) (behind s (settled_rows desk_rules pending rows))
unfolding clap_on_literals
name_passes s rows pending settles = (grind arith, grind arith)

digits_pass : (s : Setting) (d : ℕ) (ds : Text) (rows : List Row) → (d == 45) ≡ false → Passes (behind s rows) (d ∷ ds) (between rows (Some (name_of s, (d ∷ ds) ∷ [])))
unfolding clap_on_literals
digits_pass s d ds rows other = (grind arith, grind arith)

-- which is used when it settles
setting_settles : (s : Setting) (digits : Text) (apart : Bool) (rows : List Row) → has_row (name_of s) rows ≡ false
    → Stands (rows ++ row_for (numbered s digits apart) ∷ []) rows (Some (name_of s, digits ∷ []))
unfolding clap_on_literals
setting_settles s digits apart rows fresh =
    let choice = numbered s digits apart in
    let fault : settle_fault desk_rules false (held rows (Some (name_of s, digits ∷ []))) ≡ use_fault false (rule_in choice) (digits ∷ []) rows = grind arith in
    let put : settled_rows desk_rules (Some (name_of s, digits ∷ [])) rows ≡ used (rule_in choice) (digits ∷ []) rows = grind arith in
    record { settles = fault ∙ use_passes choice rows fresh; are = put ∙ used_puts choice rows fresh }

words_lead : (s : Setting) (digits : Text) (apart : Bool) (rows before : List Row) (pending : Pending) → Stands rows before pending → IsNumeral 10 digits → has_row (name_of s) rows ≡ false
    → Leads before pending (dashed (name_of s) ∷ digits ∷ []) (rows ++ row_for (numbered s digits apart) ∷ [])
words_lead s [] apart rows before pending stands numeral fresh = absurd (omega (arith, numeral.0))
words_lead s (d ∷ ds) apart rows before pending stands numeral fresh =
    let digit : (d == 45) ≡ false = ne_eqb _ _ (λ e. omega (arith, digit_from_value d numeral.1.0)) in
    let settled = settled_rows desk_rules pending before in
    record {
      after = settled;
      waits = Some (name_of s, (d ∷ ds) ∷ []);
      stands = subst (λ r. Stands (rows ++ row_for (numbered s (d ∷ ds) apart) ∷ []) r (Some (name_of s, (d ∷ ds) ∷ []))) (sym stands.are) (setting_settles s (d ∷ ds) apart rows fresh);
      runs = λ more. run_word (between before pending) _ (dashed (name_of s)) ((d ∷ ds) ∷ more) (name_passes s before pending stands.settles)
          ∙ run_word (behind s settled) _ (d ∷ ds) more (digits_pass s d ds settled digit);
    }

-- the words of a choice put its row behind the others
pub choice_leads : (choice : Choice) (rows before : List Row) (pending : Pending) → Stands rows before pending → IsInOrder choice → has_row (option_of choice) rows ≡ false
    → Leads before pending (words_of choice) (rows ++ row_for choice ∷ [])
choice_leads (numbered s digits true) rows before pending stands order fresh = words_lead s digits true rows before pending stands order.0 fresh
choice_leads (numbered s digits false) rows before pending stands order fresh = word_leads (numbered s digits false) rows before pending stands fresh
choice_leads progress rows before pending stands order fresh = word_leads progress rows before pending stands fresh
