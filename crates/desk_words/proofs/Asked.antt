-- What words that are choices come to.
use Rattle.clap.proofs.OnLiterals.{clap_on_literals}
use Rattle.clap.specs.Faults.{default_fault, defaults_fault, walk_fault}
use Rattle.clap.specs.Kinds.{Kinds}
use Rattle.clap.specs.Walk.{Row, Rule, Text, Walk, finished, first_of, has_row, one_of, settled_rows, with_default}
use Rattle.clap.specs.Words.{fault_of, matches_of}
use Rattle.desk_words.proofs.Walked.{Pending, Stands, between, choice_leads, desk_rules, row_for, rule_in, run}
use Rattle.desk_words.specs.Command.{Chooses, IsNumberFor, Says, desk, progress_text, text_of}
use Rattle.desk_words.specs.Setting.{name_of, number_of, progress_name}
use Rattle.desk_words.specs.Words.{AreOnce, AsksWith, Choice, IsInOrder, all_words, chosen_by, option_of}
use Rattle.desk_words.specs.Words.Choice.{numbered, progress}
use Rattle.desk_words.specs.declared.settings.Options.{Options}
use Rattle.desk_words.specs.declared.settings.Setting.{Setting}
use Rattle.desk_words.specs.declared.settings.Setting.TheVariants.{Facts, Squares, Workers}
use Rattle.std.proofs.Common.{Bool, List, None, Option, Some, [], ap, append-nil, append_assoc, arith, codes, cond, drop, false, fold, if◌then◌else◌, map, refl, subst, sym, ℕ, ◌++◌, ◌==◌, ◌∙◌, ◌∷◌, ◌≡◌, ◌≢◌}
use Rattle.std.proofs.lemmas.Bool.{cases_Bool, ne_eqb}
use Rattle.std.proofs.lemmas.List.Elements.{All-tail}
use Rattle.std.proofs.lemmas.Slice.Eq.{bytes_eq-Decides}
use Rattle.std.proofs.lemmas.Str.Parse.{digit_from_value}
use Rattle.std.specs.List.{All, slice_index_or}
use Rattle.std.specs.Str.{bytes_eq}
use Rattle.std.specs.Str.Parse.{IsNumeral, digits_value, without_leading_plus}

-- none of the choices has a row yet
abbrev AreFresh : List Row → List Choice → Type 0
AreFresh rows = All (λ choice. has_row (option_of choice) rows ≡ false)

has_other : (id : Text) (rows : List Row) (row : Row) → bytes_eq row.id id ≡ false → has_row id (rows ++ row ∷ []) ≡ has_row id rows
has_other id [] row other = rw other refl
has_other id (r ∷ rows) row other = grind (arith, has_other id rows row)

names_differ : (a b : Text) → a ≢ b → bytes_eq a b ≡ false
names_differ a b other = grind (arith, cases_Bool (bytes_eq a b), bytes_eq-Decides a b)

still_fresh : (choice : Choice) (choices : List Choice) (rows : List Row) → All (λ other. option_of other ≢ option_of choice) choices → AreFresh rows choices → AreFresh (rows ++ row_for choice ∷ []) choices
still_fresh choice choices rows others fresh = λ k d low.
    let other : Choice = slice_index_or choices k d in
    has_other (option_of other) rows (row_for choice) (names_differ (option_of choice) (option_of other) (λ e. others k d low (sym e))) ∙ fresh k d low

-- where the walk over the words of choices ends, with these rows
record Ends (words : List Text) (rows before : List Row) (pending : Pending) : Type 0 where
  after : List Row
  waits : Pending
  stands : Stands rows after waits
  runs : run (between before pending) words ≡ ([], between after waits)

nothing_more : (rows before : List Row) (pending : Pending) → Stands rows before pending → Ends [] rows before pending
unfolding walk_fault
nothing_more rows before pending stands = record { after = before; waits = pending; stands = stands; runs = refl }

abbrev rows_by : List Choice → List Row → List Row
rows_by [] rows = rows
rows_by (choice ∷ choices) rows = rows_by choices (rows ++ row_for choice ∷ [])

rows_by-map : (choices : List Choice) (rows : List Row) → rows_by choices rows ≡ rows ++ map row_for choices
rows_by-map [] rows = sym (append-nil rows)
rows_by-map (choice ∷ choices) rows = rows_by-map choices (rows ++ row_for choice ∷ []) ∙ append_assoc rows (row_for choice ∷ []) (map row_for choices)

choices_end : (choices : List Choice) (rows before : List Row) (pending : Pending) → Stands rows before pending → All IsInOrder choices → AreOnce choices → AreFresh rows choices
    → Ends (all_words choices) (rows_by choices rows) before pending
choices_end [] rows before pending stands orders once fresh = nothing_more rows before pending stands
choices_end (choice ∷ choices) rows before pending stands orders once fresh =
    let first = choice_leads choice rows before pending stands (orders 0 choice (omega arith)) (fresh 0 choice (omega arith)) in
    let rest = choices_end choices (rows ++ row_for choice ∷ []) first.after first.waits first.stands (All-tail IsInOrder choice choices orders) once.1
    (still_fresh choice choices rows once.0 (All-tail (λ other. has_row (option_of other) rows ≡ false) choice choices fresh)) in
    record {
      after = rest.after;
      waits = rest.waits;
      stands = rest.stands;
      runs = first.runs (all_words choices) ∙ rest.runs;
    }

asked_end : (words : List Text) (choices : List Choice) → AsksWith choices words → Ends words (map row_for choices) [] None
asked_end words choices asks =
    rw asks.spelled (subst (λ rows. Ends (all_words choices) rows [] None) (rows_by-map choices [])
    (choices_end choices [] [] None (record { settles = refl; are = refl }) asks.numbers asks.once (λ k d low. refl)))

-- the defaults of these options pass, and leave these rows
record Defaults (rows : List Row) (options : List Rule) (after : List Row) : Type 0 where
  pass : defaults_fault rows options ≡ []
  are : fold with_default rows options ≡ after

no_options : (rows : List Row) → Defaults rows [] rows
unfolding defaults_fault
no_options rows = record { pass = refl; are = refl }

one_default : (a : Rule) (rows after : List Row) (options : List Rule) → default_fault rows a ≡ [] → Defaults (with_default rows a) options after → Defaults rows (a ∷ options) after
unfolding defaults_fault
one_default a rows after options passes rest = record { pass = rw passes rest.pass; are = rest.are }

-- an option without one
no_default : (a : Rule) (rows after : List Row) (options : List Rule) → a.defaults ≡ [] → Defaults rows options after → Defaults rows (a ∷ options) after
no_default a rows after options none rest =
    let same : with_default rows a ≡ rows = rw none (grind (arith, cases_Bool (has_row a.id rows))) in
    let passes : default_fault rows a ≡ [] = rw none (grind (arith, cases_Bool (has_row a.id rows))) in
    one_default a rows after options passes (rw same rest)

abbrev flag_in : Rule
flag_in = rule_in progress

flag_passes : (rows : List Row) → default_fault rows flag_in ≡ []
unfolding clap_on_literals
flag_passes rows = grind (arith, cases_Bool (has_row progress_name rows))

-- progress alone has one
defaults : (rows : List Row) → Defaults rows desk_rules (with_default rows flag_in)
defaults rows =
    let after = with_default rows flag_in in
    no_default _ rows after _ refl (no_default _ rows after _ refl (no_default _ rows after _ refl
    (one_default flag_in rows after _ (flag_passes rows) (no_default _ after after _ refl (no_default _ after after _ refl (no_options after))))))

asked_passes : (words : List Text) (choices : List Choice) → AsksWith choices words → fault_of desk words ≡ []
asked_passes words choices asks =
    let ends = asked_end words choices asks in
    rw (ap (λ r. r.0) ends.runs, ap (λ r. r.1) ends.runs, ends.stands.settles, (defaults (settled_rows desk_rules ends.waits ends.after)).pass) refl

asked_rows : (words : List Text) (choices : List Choice) → AsksWith choices words → matches_of desk words ≡ with_default (map row_for choices) flag_in
asked_rows words choices asks =
    let ends = asked_end words choices asks in
    ap (λ (r : Kinds × Walk). finished desk_rules r.1.held) ends.runs ∙ ap (λ rows. fold with_default rows desk_rules) ends.stands.are ∙ (defaults (map row_for choices)).are

-- its default changes nothing of the settings
setting_kept : (s : Setting) (rows : List Row) → first_of (name_of s) (with_default rows flag_in) ≡ first_of (name_of s) rows
setting_kept Workers [] = refl
setting_kept Facts [] = refl
setting_kept Squares [] = refl
setting_kept s (r ∷ rows) = grind (arith, cases_Bool (bytes_eq r.id progress_name), cases_Bool (has_row progress_name rows), setting_kept s rows)

-- digits say their number
no_plus : (digits : Text) → IsNumeral 10 digits → without_leading_plus digits ≡ digits
no_plus [] numeral = refl
no_plus (d ∷ ds) numeral =
    let plus : (d == 43) ≡ false = ne_eqb _ _ (λ e. omega (arith, digit_from_value d numeral.1.0)) in
    ap (λ b. drop (cond b 1 0) (d ∷ ds)) plus

number_said : (s : Setting) (digits : Text) (apart : Bool) → IsInOrder (numbered s digits apart) → IsNumberFor s (Some digits) (digits_value 10 digits)
number_said s digits apart order = rw (no_plus digits order.0) (refl, order)

-- a setting's number is the one that the choices come to
number_by : (s : Setting) (choices : List Choice) → All IsInOrder choices → IsNumberFor s (first_of (name_of s) (map row_for choices)) (number_of s (chosen_by choices))
number_by Workers (numbered Workers digits apart ∷ choices) orders = number_said Workers digits apart (orders 0 (numbered Workers digits apart) (omega arith))
number_by Facts (numbered Facts digits apart ∷ choices) orders = number_said Facts digits apart (orders 0 (numbered Facts digits apart) (omega arith))
number_by Squares (numbered Squares digits apart ∷ choices) orders = number_said Squares digits apart (orders 0 (numbered Squares digits apart) (omega arith))
number_by Workers [] orders = refl
number_by Facts [] orders = refl
number_by Squares [] orders = refl
number_by s (choice ∷ choices) orders = number_by s choices (All-tail IsInOrder choice choices orders)

-- and so is progress
told : Bool → Text
told b = if b then codes "true" else codes "false"

flag_said : (choices : List Choice) → one_of progress_name (with_default (map row_for choices) flag_in) ≡ Some (told (chosen_by choices).progress)
unfolding told
flag_said [] = refl
flag_said (numbered Workers digits apart ∷ choices) = grind (arith, cases_Bool (has_row progress_name (map row_for choices)), flag_said choices)
flag_said (numbered Facts digits apart ∷ choices) = grind (arith, cases_Bool (has_row progress_name (map row_for choices)), flag_said choices)
flag_said (numbered Squares digits apart ∷ choices) = grind (arith, cases_Bool (has_row progress_name (map row_for choices)), flag_said choices)
flag_said (progress ∷ choices) = refl

asked_flag : (words : List Text) (choices : List Choice) → AsksWith choices words → progress_text words ≡ Some (told (chosen_by choices).progress)
asked_flag words choices asks = ap (one_of progress_name) (asked_rows words choices asks) ∙ flag_said choices

says_told : (text : Option Text) (p b : Bool) → text ≡ Some (told p) → (b ≡ p → Says text b) × (Says text b → b ≡ p)
unfolding told
says_told text p b is = (λ same. grind (arith, cases_Bool p), λ says. grind (arith, cases_Bool p))

-- choices choose what they come to
pub asked_chooses : (words : List Text) (choices : List Choice) → AsksWith choices words → Chooses words (chosen_by choices)
asked_chooses words choices asks =
    let rows = map row_for choices in
    let chosen = chosen_by choices in
    record {
      taken = asked_passes words choices asks;
      numbers = λ s. subst (λ text. IsNumberFor s text (number_of s chosen)) (sym (ap (first_of (name_of s)) (asked_rows words choices asks) ∙ setting_kept s rows)) (number_by s choices asks.numbers);
      progress = (says_told _ chosen.progress chosen.progress (asked_flag words choices asks)).0 refl;
    }

same_number : (s : Setting) (text : Option Text) (n m : ℕ) → IsNumberFor s text n → IsNumberFor s text m → n ≡ m
same_number s None n m one other = one ∙ sym other
same_number s (Some text) n m one other = one.0 ∙ sym other.0

-- and nothing else
pub asked_only : (words : List Text) (choices : List Choice) → AsksWith choices words → (options : Options) → Chooses words options → options ≡ chosen_by choices
asked_only words choices asks options chosen =
    let asked = asked_chooses words choices asks in
    let same : (s : Setting) → number_of s options ≡ number_of s (chosen_by choices) = λ s. same_number s (text_of s words) _ _ (chosen.numbers s) (asked.numbers s) in
    let shown = (says_told _ (chosen_by choices).progress options.progress (asked_flag words choices asks)).1 chosen.progress in
    λ i. record { workers = same Workers i; facts = same Facts i; squares = same Squares i; progress = shown i }
