-- Tables that are written read back.
use Rattle.table_lines.proofs.Names.{AllByRecursion, Described, Descriptor, Entry, Head, IsDigit, IsEntryOf, IsSet, IsTransitionOf, IsVisible, IsWide, List, Neighborhood, None, NumberedLine, Ok, Option, Some, State, Symmetry, Transition}
use Rattle.table_lines.proofs.Names.{Variables, WrittenTablesAreRead, [], all_append, all_below, all_tested, and-true, ap, append-nil, append_assoc, ap₂, are_below, arith, bytes_decides, bytes_eq, cases_eq, codes, decimal, decimal-bytes}
use Rattle.table_lines.proofs.Names.{defines_variable, definition_in, definition_line, definition_lines, descriptor_named, descriptor_of, differs, digit-visible, drop, drop-append-add, drop-append_seam, each, entry_text, eq-eqb, eqb-true}
use Rattle.table_lines.proofs.Names.{false, fields, get_or-append, get_or-append_seam, has, head_from, head_of, inl, inr, is_variable_byte, is_variable_name, join_with_byte, least_states, length, length-append, length-map, line-visible}
use Rattle.table_lines.proofs.Names.{list_any, map, most_states, name_of_neighborhood, name_of_symmetry, nat_eq, nat_lt, nat_tests, neighborhood_named, no_variables, number_of-decimal, numbered_from, option_and_then, option_map, or-false}
use Rattle.table_lines.proofs.Names.{parts, places_of, position, position-at, refl, rising, rising-agree, set_text, states_in, states_or_fault, subst, suc, sym, symmetry_named, take, take-append_seam, transition_line, transition_of}
use Rattle.table_lines.proofs.Names.{transitions_of, trim, trim-blank, true, unbraced, undescribed, union, variable_name, variables_after, visible-tested, with_definition, within-read, ℕ, ◌&&◌, ◌++◌, ◌+◌, ◌-◌, ◌<◌, ◌==◌, ◌^◌, ◌||◌, ◌∙◌}
use Rattle.table_lines.proofs.Names.{◌∷◌, ◌≡◌, ◌≤◌}
use Rattle.text_lines.specs.Numbers.{number_of}
use Rattle.text_lines.proofs.Shared.NamedValues.{HasNoSign, named_value-decimal, named_value-none}
use Rattle.table_lines.specs.declared.descriptors.Descriptor.TheVariants as descriptor
use Rattle.table_lines.proofs.Shared.SaidTables.{all-tested}
use Rattle.table_lines.proofs.WrittenEntries.{AreNamed, IsField, all-map, decimal-each, decimal-field, defines_none, digit-apart, entries-read, entry-each, entry-field, fields-joined, joined-each, joined-some, parts-joined}

-- the set that a definition lists, between its braces
abbrev pub listed : List ℕ → List ℕ
listed set = join_with_byte 44 (map decimal set)

-- names of different variables differ
name-number : (i j : ℕ) → IsWide i → IsWide j → variable_name i ≡ variable_name j → i ≡ j
name-number i j wide other h =
    let same : Some i ≡ Some j = sym (number_of-decimal i wide) ∙ ap (λ (name : List ℕ). number_of (drop 1 name)) h ∙ number_of-decimal j other in
    cc

-- the variables after one more definition by its written name
named-more : (variables : Variables) (done : List (List ℕ)) (set : List ℕ) → length done < 2 ^ 64 → AreNamed variables done
    → AreNamed (with_definition variables (variable_name variables.defined) set) (done ++ set ∷ [])
named-more variables done set few are =
    let long : length (done ++ set ∷ []) ≡ length done + 1 = length-append done (set ∷ []) in
    let new = variable_name variables.defined in
    record {
      count = omega (arith, are.count, long);
      named = λ number low. elim (cases_eq number variables.defined) [
        | inl same ↦ rw (same, (bytes_decides new new).1 refl, are.count, get_or-append_seam done set [] [])
        | inr other ↦
            let before : number < length done = omega (arith, long, low, are.count) in
            let name = bytes_decides new (variable_name number) in
            let same = λ (e : bytes_eq new (variable_name number) ≡ true). name-number variables.defined number (omega (arith, are.count, few)) (omega (arith, few)) (name.0 e) in
            let apart : bytes_eq new (variable_name number) ≡ false = grind (arith, same) in
            rw (apart, get_or-append done (set ∷ []) [] number before) (are.named number before)
      ];
    }

-- the states of a set are written in full
pub set-wide : (n : ℕ) (set : List ℕ) → n ≤ 256 → all_below n set ≡ true → AllByRecursion IsWide set
set-wide n set few h = all_tested IsWide (λ s. nat_lt s n) set (λ s test. let low : s < n = grind (arith, nat_tests) in omega arith) h

-- what holds of digits and of its signs holds of each byte of a set's text
pub set_text-each : (P : ℕ → Type 0) → AllByRecursion P (codes ",={}") → ((b : ℕ) → IsDigit b → P b) → (set : List ℕ) → AllByRecursion IsWide set → AllByRecursion P (set_text set)
set_text-each P signs digit set h =
    let inner = joined-each P signs.0 (map decimal set) (all-map IsWide (AllByRecursion P) decimal (decimal-each P digit) set h) in
    (signs.1.0, (signs.1.1.0, all_append P (listed set) (125 ∷ []) inner signs.1.1.1))

listed-parts : (set : List ℕ) → 0 < length set → AllByRecursion IsWide set → parts (listed set) ≡ map decimal set
listed-parts set some h = parts-joined (map decimal set) (omega (arith, length-map set decimal)) (all-map IsWide IsField decimal decimal-field set h)

-- what stands between braces
unbraced-between : (inner : List ℕ) → unbraced (123 ∷ inner ++ 125 ∷ []) ≡ Some inner
unbraced-between inner =
    let text = 123 ∷ inner ++ 125 ∷ [] in
    let before : length text - 1 ≡ length (123 ∷ inner) = omega (arith, length-append (123 ∷ inner) (125 ∷ [])) in
    rw (before, drop-append_seam (123 ∷ inner) (125 ∷ []), take-append_seam inner (125 ∷ []))

-- the name of a variable is one
digit-variable : (d : ℕ) → IsDigit d → is_variable_byte d ≡ true
digit-variable d h = let low : 48 ≤ d = h.0 in let high : d ≤ 57 = h.1 in grind (arith, nat_tests)

name-is : (number : ℕ) → IsWide number → is_variable_name (variable_name number) ≡ true
name-is number wide = grind (arith, nat_tests, differs, all-tested, digit-variable, decimal-bytes)

name-visible : (number : ℕ) → IsWide number → AllByRecursion IsVisible (variable_name number)
name-visible number wide = ((omega arith, omega arith), decimal-each IsVisible digit-visible number wide)

-- what stands before the equals sign and behind it
definition-said : (line : List ℕ) (sign : ℕ) (name inner : List ℕ) → position (λ b. b == 61) line ≡ Some sign → trim (drop 3 (take sign line)) ≡ name → is_variable_name name ≡ true
    → unbraced (trim (drop (sign + 1) line)) ≡ Some inner → definition_in line ≡ Some (name, parts inner)
definition-said line sign name inner at trimmed is between = rw (at, between, trimmed, is)

-- a definition that is written is the one of its name and its states
definition-read : (number : ℕ) (set : List ℕ) → IsWide number → 0 < length set → AllByRecursion IsWide set → definition_in (definition_line number set) ≡ Some (variable_name number, map decimal set)
definition-read number set wide some low =
    let name = variable_name number in
    let front = codes "var " ++ name in
    let braced = 123 ∷ listed set ++ 125 ∷ [] in
    let visible = set_text-each IsVisible (visible-tested (codes ",={}") refl) digit-visible set low in
    let line = line-visible braced (omega arith) visible.1 in
    definition-said (definition_line number set) (length front) name (listed set)
    (position-at (λ b. b == 61) front 61 braced (refl, (refl, (refl, (refl, (refl, decimal-each (λ b. (b == 61) ≡ false) (digit-apart 61 refl) number wide))))) refl)
    (ap (λ (before : List ℕ). trim (drop 3 before)) (take-append_seam front (61 ∷ braced)) ∙ trim-blank name (name-visible number wide))
    (name-is number wide)
    (ap (λ (behind : List ℕ). unbraced (trim behind)) (drop-append-add front (61 ∷ braced) 1) ∙ ap unbraced line.trimmed ∙ unbraced-between (listed set))
    ∙ ap (λ (members : List (List ℕ)). Some (name, members)) (listed-parts set some low)

-- each state by itself
abbrev singles : List ℕ → List (List ℕ)
singles set = map (λ s. s ∷ []) set

members-read : (variables : Variables) (number : ℕ) (set : List ℕ) → AllByRecursion IsWide set → each (states_or_fault variables number) (map decimal set) ≡ Ok (singles set)
members-read variables number [] h = refl
members-read variables number (s ∷ set) h = rw (number_of-decimal s h.0, members-read variables number set h.1)

has-singles : (set : List ℕ) (s : ℕ) → list_any (λ single. has single s) (singles set) ≡ has set s
has-singles [] s = refl
has-singles (t ∷ set) s = ap₂ (λ a b. a || b) (or-false (nat_eq s t)) (has-singles set s)

below-singles : (n : ℕ) (set : List ℕ) → are_below n (singles set) ≡ all_below n set
below-singles n [] = refl
below-singles n (s ∷ set) = ap₂ (λ a b. a && b) (and-true (nat_lt s n)) (below-singles n set)

union-singles : (set : List ℕ) → rising (has set) ≡ set → union (singles set) ≡ set
union-singles set h = rising-agree (λ s. list_any (λ single. has single s) (singles set)) (has set) (λ s _. has-singles set s) ∙ h

-- a definition that is written defines its set
defined-read : (head : Head) (variables : Variables) (line number : ℕ) (set : List ℕ) → head.states ≤ 256 → IsWide number → IsSet head.states set
    → variables_after head variables (record { number = line; text = definition_line number set }) ≡ Ok
    (with_definition variables (variable_name number) set)
defined-read head variables line number set few wide is =
    let low = set-wide head.states set few is.below in
    rw (definition-read number set wide is.some low, members-read variables line set low, below-singles head.states set, is.below, union-singles set is.rising)

-- what a name and its value describe
abbrev described_by : List ℕ × List ℕ → Option (Descriptor × List ℕ)
described_by named = option_map (λ d. (d, named.1)) (descriptor_named named.0)

-- a line without a colon is no descriptor
line-undescribed : (line : List ℕ) → HasNoSign 58 line → descriptor_of line ≡ None
line-undescribed line h = ap (option_and_then described_by) (named_value-none 58 line h)

definition-undescribed : (n number : ℕ) (set : List ℕ) → n ≤ 256 → IsWide number → IsSet n set → descriptor_of (definition_line number set) ≡ None
definition-undescribed n number set few wide is =
    grind (arith, nat_tests, set-wide, line-undescribed, all_append, decimal-each, digit-apart, set_text-each)

-- the entries of a transition, its result last
abbrev entries_of : Transition → List Entry
entries_of t = t.inputs ++ t.result ∷ []

module _ (head : Head) (sets : List (List ℕ)) (low : head.states ≤ 256) (few : length sets ≤ 2 ^ 64) where
  module _ (t : Transition) (is : IsTransitionOf head.states head.neighborhood sets t) where
    entries-are : AllByRecursion (IsEntryOf head.states sets) (entries_of t)
    entries-are = all_append (IsEntryOf head.states sets) t.inputs (t.result ∷ []) is.inputs (is.result, tt)

    entries-many : length (map entry_text (entries_of t)) ≡ length (places_of head.neighborhood) + 2
    entries-many = grind (arith, eqb-true, length-append, length-map)

    line-fields : (states : ℕ) → fields states (transition_line t) ≡ map entry_text (entries_of t)
    line-fields states =
        fields-joined states (map entry_text (entries_of t)) (omega (arith, entries-many))
        (all-map (IsEntryOf head.states sets) IsField entry_text (λ e. entry-field head.states sets e low few) (entries_of t) entries-are)

    pub line-some : 0 < length (transition_line t)
    line-some = joined-some (map entry_text (entries_of t)) (omega (arith, entries-many))

    -- what holds of commas, of digits and of v holds of a transition's line
    pub line-each : (P : ℕ → Type 0) → P 44 → P 118 → ((b : ℕ) → IsDigit b → P b) → AllByRecursion P (transition_line t)
    line-each P comma v digit =
        joined-each P comma (map entry_text (entries_of t))
        (all-map (IsEntryOf head.states sets) (AllByRecursion P) entry_text (λ e of. entry-each head.states sets e low few of P v digit) (entries_of t) entries-are)

    -- so it is no descriptor and defines no variable
    line-plain : (descriptor_of (transition_line t) ≡ None) × (defines_variable (transition_line t) ≡ false)
    line-plain = (
      line-undescribed (transition_line t) (line-each (λ b. (b == 58) ≡ false) refl refl (digit-apart 58 refl)),
      defines_none (transition_line t) (line-each (λ b. (b == 97) ≡ false) refl refl (digit-apart 97 refl)),
    )

    -- and a transition reads back
    transition-read : (variables : Variables) (number : ℕ) → AreNamed variables sets → transition_of head variables (record { number = number; text = transition_line t }) ≡ Ok t
    transition-read variables number named =
        let last : length (entries_of t) - 1 ≡ length t.inputs = omega (arith, length-append t.inputs (t.result ∷ [])) in
        let counted = eq-eqb (length (map entry_text (entries_of t))) (length (places_of head.neighborhood) + 2) entries-many in
        rw (line-fields head.states, counted, entries-read head.states number variables sets (entries_of t) low named entries-are, last)
        (rw (take-append_seam t.inputs (t.result ∷ []), get_or-append_seam t.inputs t.result [] (State 0), is.bound))

  -- all transitions read back, one after another
  transitions-read : (variables : Variables) (number : ℕ) (ts : List Transition) → AreNamed variables sets → AllByRecursion (IsTransitionOf head.states head.neighborhood sets) ts
      → transitions_of head variables (numbered_from number (map transition_line ts)) ≡ Ok ts
  transitions-read variables number [] named h = refl
  transitions-read variables number (t ∷ ts) named h =
      grind (arith, line-plain, transition-read, transitions-read variables (number + 1) ts named h.1)

  -- so do they behind the definitions of those sets that are not yet done
  definitions-read : (ts : List Transition) → AllByRecursion (IsTransitionOf head.states head.neighborhood sets) ts → (variables : Variables) (done left : List (List ℕ)) (number : ℕ) → done ++ left ≡ sets
      → AreNamed variables done → AllByRecursion (IsSet head.states) left
      → transitions_of head variables (numbered_from number (definition_lines variables.defined left ++ map transition_line ts)) ≡ Ok ts
  definitions-read ts are variables done [] number whole named h = transitions-read variables number ts (subst (AreNamed variables) (sym (append-nil done) ∙ whole) named) are
  definitions-read ts are variables done (set ∷ left) number whole named h =
      let long : length (done ++ set ∷ left) ≡ length done + suc (length left) = length-append done (set ∷ left) in
      let short : length done < 2 ^ 64 = omega (arith, long, ap length whole) in
      let wide : IsWide variables.defined = omega (arith, named.count) in
      rw (definition-undescribed head.states variables.defined set low wide h.0, defined-read head variables number variables.defined set low wide h.0)
      (definitions-read ts are (with_definition variables (variable_name variables.defined) set) (done ++ set ∷ []) left (number + 1)
      (append_assoc done (set ∷ []) left ∙ whole) (named-more variables done set short named) h.1)

states-line : (n : ℕ) → IsWide n → descriptor_of (codes "n_states:" ++ decimal n) ≡ Some (descriptor.States, decimal n)
states-line n wide =
    ap (option_and_then described_by)
    (named_value-decimal 58 (codes "n_states") n (refl, (refl, (refl, (refl, (refl, (refl, (refl, (refl, tt)))))))) wide)

neighborhood-line : (m : Neighborhood) → descriptor_of (codes "neighborhood:" ++ name_of_neighborhood m) ≡ Some (descriptor.Neighborhood, name_of_neighborhood m)
neighborhood-line m = grind arith

neighborhood-read : (m : Neighborhood) → neighborhood_named (name_of_neighborhood m) ≡ Some m
neighborhood-read m = grind arith

symmetry-line : (s : Symmetry) → descriptor_of (codes "symmetries:" ++ name_of_symmetry s) ≡ Some (descriptor.Symmetries, name_of_symmetry s)
symmetry-line s = grind arith

-- behind the descriptors, lines that read as transitions are no descriptors
head-end : (d : Described) (head : Head) (lines : List NumberedLine) (ts : List Transition) → head_of d ≡ Ok head → transitions_of head no_variables lines ≡ Ok ts → head_from d lines ≡ Ok (head, lines)
head-end d head [] ts said read = rw said
head-end d head (line ∷ lines) ts said read = grind (arith, said)

-- a head of three descriptors reads back
head-read : (head : Head) (number : ℕ) (states place name value : List ℕ) (lines : List NumberedLine) (ts : List Transition)
    → descriptor_of states ≡ Some (descriptor.States, value) → states_in value ≡ Some head.states
    → descriptor_of place ≡ Some (descriptor.Neighborhood, name_of_neighborhood head.neighborhood)
    → descriptor_of name ≡ Some (descriptor.Symmetries, name_of_symmetry head.symmetry) → symmetry_named head.neighborhood (name_of_symmetry head.symmetry) ≡ Some head.symmetry
    → transitions_of head no_variables lines ≡ Ok ts
    → head_from undescribed (record { number = number; text = states } ∷ record { number = number + 1; text = place } ∷ record { number = number + 1 + 1; text = name } ∷ lines) ≡ Ok (head, lines)
head-read head number states place name value lines ts first within second third has_symmetry read = grind (arith, neighborhood-read, head-end)

-- what is written says the table
pub written-read : WrittenTablesAreRead
written-read number sets table is =
    let head : Head = record { states = table.states; neighborhood = table.neighborhood; symmetry = table.symmetry } in
    let ts = table.transitions in
    let lines = numbered_from (number + 1 + 1 + 1) (definition_lines 0 sets ++ map transition_line ts) in
    let wide : IsWide table.states = omega (arith, is.at_most) in
    let none : AreNamed no_variables [] = record { count = refl; named = λ k h. absurd (omega (arith, h)) } in
    let read : transitions_of head no_variables lines ≡ Ok ts = definitions-read head sets is.at_most is.few ts is.transitions no_variables [] sets _ refl none is.defined in
    let states = within-read least_states most_states table.states wide is.at_least is.at_most in
    rw (head-read head number _ _ _ (decimal table.states) lines ts (states-line table.states wide) states (neighborhood-line table.neighborhood) (symmetry-line table.symmetry) is.symmetry read, read)
