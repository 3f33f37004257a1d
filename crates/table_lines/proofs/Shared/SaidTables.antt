-- The table that lines say: it has two states or more and 256 at most, and its transitions are of the sets that its variables are.
use Rattle.table_lines.proofs.Names.{All, All-from_recursion, All-take, AllByRecursion, BadVariable, Bool, Entry, Err, Head, IsEntryOf, IsSet, IsTransitionOf, List, MayHaveStates, Neighborhood, None, NumberedLine, Ok, OneOf, Option, Result}
use Rattle.table_lines.proofs.Names.{RuleFault, Some, State, StateTooHigh, Table, Transition, Variables, [], admits_below, all_so, ap, append_assoc, are_below, arith, defines_variable, definition_in, descriptor_of, drop, each, entry_below}
use Rattle.table_lines.proofs.Names.{entry_of, eq-eqb, false, fields, get_or-append, get_or-append_seam, has, has-rising, head_from, headed, if◌then◌else◌, is_free, is_full, is_some, is_variable_name, length, length-append, length-take-le}
use Rattle.table_lines.proofs.Names.{list_all, list_any, member_states, name_of_symmetry, nat_tests, no_variables, ok_or, option_and_then, parts, places_of, position, recursion_from_All, refl, rising, rising-agree, same_value, set_of}
use Rattle.table_lines.proofs.Names.{some-ok, states_or_fault, symmetry_named, take, then-ok, transition_from, transition_of, transitions_of, trim, true, unbraced, undescribed, union, with_definition, ℕ, ◌&&◌, ◌++◌, ◌+◌, ◌-◌, ◌<◌, ◌==◌}
use Rattle.table_lines.proofs.Names.{◌>>=◌, ◌||◌, ◌∙◌, ◌∷◌, ◌≡◌, ◌≤◌}
use Rattle.table_lines.specs.declared.transition.Variable.{Variable}
use Rattle.table_lines.specs.Lines.{lines_of}
use Rattle.table_lines.specs.Read.{IsRead}
use Rattle.table_lines.proofs.SaidHeads.{head_from-is}
use Rattle.table_lines.proofs.Splits.{length-parts}
use Rattle.table_lines.proofs.Unions.{union-below}

-- what holds of each is what a test of all says
pub all-tested : {A : Type 0} (P : A → Type 0) (p : A → Bool) → ((x : A) → P x → p x ≡ true) → (xs : List A) → AllByRecursion P xs → list_all p xs ≡ true
all-tested P p tested [] h = refl
all-tested P p tested (x ∷ xs) h = (λ i. tested x h.0 i && all-tested P p tested xs h.1 i)

-- what holds of each that is read, of which there are as many as were to be read
all-read : {A B : Type 0} (P : B → Type 0) (f : A → Result B RuleFault) (xs : List A) (ys : List B) → ((x : A) (y : B) → f x ≡ Ok y → P y) → each f xs ≡ Ok ys
    → AllByRecursion P ys × (length ys ≡ length xs)
all-read P f [] ys one h = grind arith
all-read P f (x ∷ xs) ys one h = grind (arith, one x, all-read P f xs)

-- what is of some sets is of them and more
entry-more : (n : ℕ) (sets more : List (List ℕ)) (e : Entry) → IsEntryOf n sets e → IsEntryOf n (sets ++ more) e
entry-more n sets more e is = grind (arith, length-append, get_or-append)

transition-more : (n : ℕ) (neighborhood : Neighborhood) (sets more : List (List ℕ)) (t : Transition) → IsTransitionOf n neighborhood sets t
    → IsTransitionOf n neighborhood (sets ++ more) t
transition-more n neighborhood sets more t is = grind (arith, all_so, entry-more)

-- the variables so far are these sets, in the order of their definitions, and each has a state at least
record AreDefined (n : ℕ) (sets : List (List ℕ)) (variables : Variables) : Type 0 where
  count : variables.defined ≡ length sets
  each : (name : List ℕ) (v : Variable) → variables.named name ≡ Some v → IsEntryOf n sets (OneOf v) × (0 < length v.states)

entry-is : (n : ℕ) (sets : List (List ℕ)) (variables : Variables) (number : ℕ) (field : List ℕ) (e : Entry) → AreDefined n sets variables → entry_of n variables number field ≡ Ok e → IsEntryOf n sets e
entry-is n sets variables number field e defined h = grind (arith, nat_tests, defined.each field)

-- the entries of which a transition is made
by_entries : (P : Transition → Type 0) (head : Head) (variables : Variables) (line : NumberedLine) (t : Transition)
    → ((es : List Entry) → each (entry_of head.states variables line.number) (fields head.states line.text) ≡ Ok es
    → length (fields head.states line.text) ≡ length (places_of head.neighborhood) + 2 → is_free (transition_from es).inputs (transition_from es).result ≡ false
    → P (transition_from es)) → transition_of head variables line ≡ Ok t → P t
by_entries P head variables line t made h = grind (arith, nat_tests)

transition-is : (head : Head) (sets : List (List ℕ)) (variables : Variables) (line : NumberedLine) (t : Transition) → AreDefined head.states sets variables
    → transition_of head variables line ≡ Ok t → IsTransitionOf head.states head.neighborhood sets t
transition-is head sets variables line t defined = by_entries (IsTransitionOf head.states head.neighborhood sets) head variables line t (λ es read many bound.
    let P : Entry → Type 0 = IsEntryOf head.states sets in
    let are = all-read P (entry_of head.states variables line.number) (fields head.states line.text) es
    (λ field e. entry-is head.states sets variables line.number field e defined) read in
    let all : All P es = All-from_recursion P es are.0 in
    record {
      inputs = recursion_from_All P (take (length es - 1) es) (All-take P (length es - 1) es all);
      result = all (length es - 1) (State 0) (omega (arith, are.1, many));
      full = eq-eqb _ _ (omega (arith, are.1, many, length-take-le (length es - 1) es (omega arith)));
      bound = bound;
    })

-- a definition has a member at least
parts-some : (sign : Option ℕ) (name : ℕ → List ℕ) (fits : ℕ → Bool) (set : ℕ → Option (List ℕ)) (d : List ℕ × List (List ℕ))
    → option_and_then (λ k. option_and_then (λ s. if fits k then Some (name k, parts s) else None) (set k)) sign ≡ Some d → 0 < length d.1
parts-some sign name fits set d h = grind (arith, length-parts)

members-some : (line : List ℕ) (d : List ℕ × List (List ℕ)) → definition_in line ≡ Some d → 0 < length d.1
members-some line d h = parts-some (position (λ b. b == 61) line) _ (λ k. is_variable_name (trim (drop 3 (take k line)))) (λ k. unbraced (trim (drop (k + 1) line))) d h

-- a member stands for a state at least
member-some : (n : ℕ) (sets : List (List ℕ)) (variables : Variables) (member states : List ℕ) → AreDefined n sets variables → member_states variables member ≡ Some states → 0 < length states
member-some n sets variables member states defined h = grind (arith, defined.each member)

-- the union of sets of states below n, of which the first has one, is a set of states below n
union-is : (n : ℕ) (sets : List (List ℕ)) → n ≤ 256 → 0 < length sets → AllByRecursion (λ set. 0 < length set) sets → are_below n sets ≡ true → IsSet n (union sets)
union-is n [] few some h below = absurd (omega arith)
union-is n ([] ∷ sets) few some h below = absurd (omega (arith, h.0))
union-is n ((x ∷ xs) ∷ sets) few some h below =
    let test : ℕ → Bool = λ s. list_any (λ set. has set s) ((x ∷ xs) ∷ sets) in
    let inside : x < 256 = grind (arith, nat_tests) in
    let here : test x ≡ true = ap (λ v. (v || has xs x) || list_any (λ set. has set x) sets) (eq-eqb x x refl) in
    record {
      some = has-some (union ((x ∷ xs) ∷ sets)) x (has-rising test x inside ∙ here);
      rising = rising-agree (has (rising test)) test (has-rising test);
      below = union-below n ((x ∷ xs) ∷ sets) below;
    }
  where
    has-some : (states : List ℕ) (s : ℕ) → has states s ≡ true → 0 < length states
    has-some [] s k = absurd cc
    has-some (y ∷ ys) s k = omega arith

-- one more definition defines one more set
defined-one : (n : ℕ) (sets : List (List ℕ)) (variables : Variables) (name set : List ℕ) → AreDefined n sets variables → IsSet n set → AreDefined n (sets ++ set ∷ []) (with_definition variables name set)
defined-one n sets variables name set defined is =
    let long : length (sets ++ set ∷ []) ≡ length sets + 1 = length-append sets (set ∷ []) in
    let last = get_or-append_seam sets set [] [] in
    record {
      count = omega (arith, defined.count, long);
      each = λ other v h. grind (arith, long, last, is.some, defined.count, defined.each other v, entry-more n sets (set ∷ []) (OneOf v));
    }

set-is : (n : ℕ) (sets : List (List ℕ)) (variables : Variables) (number : ℕ) (members : List (List ℕ)) (set : List ℕ) → n ≤ 256 → AreDefined n sets variables → 0 < length members
    → set_of n variables number members ≡ Ok set → IsSet n set
set-is n sets variables number members set few defined many made =
    let found = then-ok (each (states_or_fault variables number) members) (λ read. if are_below n read then Ok (union read) else Err (StateTooHigh number)) set made in
    let some = all-read (λ states. 0 < length states) (states_or_fault variables number) members found.0
    (λ member states is. member-some n sets variables member states defined (some-ok (member_states variables member) _ states is)) found.1 in
    let is = found.2 in
    let below : are_below n found.0 ≡ true = grind arith in
    let same : union found.0 ≡ set = grind arith in
    rw (← same) (union-is n found.0 few (omega (arith, some.1, many)) some.0 below)

-- what comes of a line, by what it is
by_line : {D S T V : Type 0} (P : List T → Type 0) (b c : Bool) (fault : RuleFault) (found : Result D RuleFault) (make : D → Result S RuleFault) (with : D → S → V)
    (later : V → Result (List T) RuleFault) (one : Result T RuleFault) (others : Result (List T) RuleFault) (ts : List T)
    → ((d : D) (s : S) → found ≡ Ok d → make d ≡ Ok s → later (with d s) ≡ Ok ts → P ts) → ((t : T) (us : List T) → one ≡ Ok t → others ≡ Ok us → P (t ∷ us))
    → (if b then Err fault else (if c then ((found >>= λ d. make d >>= λ s. Ok (with d s)) >>= later) else (one >>= λ t. others >>= λ us. Ok (t ∷ us)))) ≡ Ok ts → P ts
by_line P b c fault found make with later one others ts defining made h = grind arith

-- the sets that lines define behind these, and transitions of them all
record AreSaid (head : Head) (sets : List (List ℕ)) (count : ℕ) (ts : List Transition) : Type 0 where
  more : List (List ℕ)
  few : length more ≤ count
  defined : AllByRecursion (IsSet head.states) more
  transitions : AllByRecursion (IsTransitionOf head.states head.neighborhood (sets ++ more)) ts

transitions-are : (head : Head) (sets : List (List ℕ)) (variables : Variables) (lines : List NumberedLine) (ts : List Transition) → head.states ≤ 256 → AreDefined head.states sets variables
    → transitions_of head variables lines ≡ Ok ts → AreSaid head sets (length lines) ts
transitions-are head sets variables [] ts few defined h = rw (← same_value [] ts h) (record { more = []; few = omega arith; defined = tt; transitions = tt })
transitions-are head sets variables (line ∷ lines) ts few defined h =
    by_line (AreSaid head sets (length (line ∷ lines))) (is_some (descriptor_of line.text)) (defines_variable line.text) _ (ok_or (definition_in line.text) (BadVariable line.number))
    (λ d. set_of head.states variables line.number d.1) (λ d set. with_definition variables d.0 set) (λ more. transitions_of head more lines) (transition_of head variables line)
    (transitions_of head variables lines) ts
    (λ d set named made read.
    let is = set-is head.states sets variables line.number d.1 set few defined (members-some line.text d (some-ok (definition_in line.text) _ d named)) made in
    let rest = transitions-are head (sets ++ set ∷ []) (with_definition variables d.0 set) lines ts few (defined-one head.states sets variables d.0 set defined is) read in
    record {
      more = set ∷ rest.more;
      few = omega (arith, rest.few);
      defined = (is, rest.defined);
      transitions = rw (← append_assoc sets (set ∷ []) rest.more) rest.transitions;
    })
    (λ t us is others.
    let rest = transitions-are head sets variables lines us few defined others in
    let here = transition-more head.states head.neighborhood sets rest.more t (transition-is head sets variables line t defined is) in
    record { more = rest.more; few = omega (arith, rest.few); defined = rest.defined; transitions = (here, rest.transitions) })
    h

-- what lines say: a table of some sets
pub record IsSaid (count : ℕ) (table : Table) : Type 0 where
  pub sets : List (List ℕ)
  pub states : MayHaveStates table.states
  pub symmetry : symmetry_named table.neighborhood (name_of_symmetry table.symmetry) ≡ Some table.symmetry
  pub few : length sets ≤ count
  pub defined : AllByRecursion (IsSet table.states) sets
  pub transitions : AllByRecursion (IsTransitionOf table.states table.neighborhood sets) table.transitions

-- a table that lines say has as many sets as there are lines, or fewer
pub lines-said : (lines : List NumberedLine) (table : Table) → lines_of lines ≡ Ok table → IsSaid (length lines) table
lines-said lines table h =
    let found = then-ok (head_from undescribed lines) (λ f. transitions_of f.0 no_variables f.1 >>= λ ts. Ok (headed f.0 ts)) table h in
    let head : Head = found.0.0 in
    let ts = then-ok (transitions_of head no_variables found.0.1) (λ ts. Ok (headed head ts)) table found.2 in
    let is = head_from-is (length lines) undescribed lines found.0 (omega arith) tt found.1 in
    let said = transitions-are head [] no_variables found.0.1 ts.0 is.states.1 (record { count = refl; each = λ name v h. absurd cc }) ts.1 in
    rw (← same_value (headed head ts.0) table ts.2) (record {
      sets = said.more;
      states = is.states;
      symmetry = is.symmetry;
      few = omega (arith, said.few, is.fewer);
      defined = said.defined;
      transitions = said.transitions;
    })

-- an entry admits states below n, where the sets have no others
entry-below : (n : ℕ) (sets : List (List ℕ)) → AllByRecursion (IsSet n) sets → (e : Entry) → IsEntryOf n sets e → entry_below n e ≡ true
entry-below n sets are (State s) is = grind (arith, nat_tests)
entry-below n sets are (OneOf v) is =
    let set = All-from_recursion (IsSet n) sets are v.number [] is.0 in
    rw is.1 set.below

-- so the table that lines say is one that may be read
pub lines-read : (lines : List NumberedLine) (table : Table) → lines_of lines ≡ Ok table → IsRead table
lines-read lines table h =
    let said = lines-said lines table h in
    let P : Transition → Type 0 = IsTransitionOf table.states table.neighborhood said.sets in
    let low = entry-below table.states said.sets said.defined in
    let inputs_low = all-tested (IsEntryOf table.states said.sets) (entry_below table.states) low in
    record {
      at_least = said.states.0;
      at_most = said.states.1;
      below = all-tested P (admits_below table.states) (λ t is i. inputs_low t.inputs is.inputs i && low t.result is.result i) table.transitions said.transitions;
      full = all-tested P (is_full table.neighborhood) (λ t is. is.full) table.transitions said.transitions;
    }
