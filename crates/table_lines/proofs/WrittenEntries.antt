-- Entries that are written read back.
use Rattle.table_lines.proofs.Names.{All, All-from_recursion, AllByRecursion, Entry, IsDigit, IsEntryOf, IsVisible, IsWide, List, Ok, OneOf, Some, State, Variables, [], all_append, all_so, and-false, arith, decimal, decimal-bytes}
use Rattle.table_lines.proofs.Names.{decimal-some, defines_variable, differs, digit-test, digit-visible, each, entry_of, entry_text, false, fields, join_with_byte, length, length-append, line-visible, map, nat_tests, number_of-decimal}
use Rattle.table_lines.proofs.Names.{or-true, parts, refl, slice_index_or, slice_split_at, slice_split_none, trim, variable_name, ℕ, ◌<◌, ◌==◌, ◌^◌, ◌∷◌, ◌≡◌, ◌≤◌}
use Rattle.std.specs.Char.{is_ascii_digit}
use Rattle.std.proofs.lemmas.List.Folds.{list_any-append}

-- a digit is no other byte
pub digit-apart : (c : ℕ) → is_ascii_digit c ≡ false → (b : ℕ) → IsDigit b → (b == c) ≡ false
digit-apart c other b h = let digit = digit-test b h in differs b c (λ e. absurd cc)

-- a visible byte that is no comma
abbrev IsFieldByte : ℕ → Type 0
IsFieldByte b = IsVisible b × ((b == 44) ≡ false)

digit-field : (b : ℕ) → IsDigit b → IsFieldByte b
digit-field b h = (digit-visible b h, digit-apart 44 refl b h)

-- words of such bytes
abbrev pub IsField : List ℕ → Type 0
IsField word = (0 < length word) × AllByRecursion IsFieldByte word

-- what holds of digits holds of a number's bytes, and with v of a variable's name
pub decimal-each : (P : ℕ → Type 0) → ((b : ℕ) → IsDigit b → P b) → (n : ℕ) → IsWide n → AllByRecursion P (decimal n)
decimal-each P digit n wide = all_so IsDigit P (decimal n) digit (decimal-bytes n wide)

pub entry-each : (n : ℕ) (sets : List (List ℕ)) (e : Entry) → n ≤ 256 → length sets ≤ 2 ^ 64 → IsEntryOf n sets e → (P : ℕ → Type 0) → P 118 → ((b : ℕ) → IsDigit b → P b) → AllByRecursion P (entry_text e)
entry-each n sets (State s) low few is P v digit = decimal-each P digit s (omega (arith, is))
entry-each n sets (OneOf w) low few is P v digit = (v, decimal-each P digit w.number (omega (arith, is.0)))

pub decimal-field : (n : ℕ) → IsWide n → IsField (decimal n)
decimal-field n wide = (decimal-some n wide, decimal-each IsFieldByte digit-field n wide)

pub entry-field : (n : ℕ) (sets : List (List ℕ)) (e : Entry) → n ≤ 256 → length sets ≤ 2 ^ 64 → IsEntryOf n sets e → IsField (entry_text e)
entry-field n sets (State s) low few is = decimal-field s (omega (arith, is))
entry-field n sets (OneOf w) low few is = (omega arith, (((omega arith, omega arith), refl), decimal-each IsFieldByte digit-field w.number (omega (arith, is.0))))

-- what holds of the images of all
pub all-map : {A B : Type 0} (P : A → Type 0) (Q : B → Type 0) (f : A → B) → ((x : A) → P x → Q (f x)) → (xs : List A) → AllByRecursion P xs → AllByRecursion Q (map f xs)
all-map P Q f one [] h = tt
all-map P Q f one (x ∷ xs) h = (one x h.0, all-map P Q f one xs h.1)

-- what holds of a comma and of each word's bytes holds of all bytes
pub joined-each : (P : ℕ → Type 0) → P 44 → (words : List (List ℕ)) → AllByRecursion (AllByRecursion P) words → AllByRecursion P (join_with_byte 44 words)
joined-each P comma [] h = tt
joined-each P comma (w ∷ []) h = h.0
joined-each P comma (w ∷ x ∷ words) h = all_append P w (44 ∷ join_with_byte 44 (x ∷ words)) h.0 (comma, joined-each P comma (x ∷ words) h.1)

pub joined-some : (words : List (List ℕ)) → 2 ≤ length words → 0 < length (join_with_byte 44 words)
joined-some [] some = absurd (omega arith)
joined-some (w ∷ []) some = absurd (omega arith)
joined-some (w ∷ x ∷ words) some = omega (arith, length-append w (44 ∷ join_with_byte 44 (x ∷ words)))

-- words between commas come back
pub parts-joined : (words : List (List ℕ)) → 0 < length words → AllByRecursion IsField words → parts (join_with_byte 44 words) ≡ words
parts-joined [] some h = absurd (omega arith)
parts-joined (w ∷ words) some h = split w words h
  where
    trimmed : (w : List ℕ) → IsField w → trim w ≡ w
    trimmed w k = let line = line-visible w k.0 (all_so IsFieldByte IsVisible w (λ b h. h.0) k.1) in line.trimmed

    none : (w : List ℕ) → IsField w → All (λ b. (b == 44) ≡ false) w
    none w k = All-from_recursion (λ b. (b == 44) ≡ false) w (all_so IsFieldByte (λ b. (b == 44) ≡ false) w (λ b h. h.1) k.1)

    split : (w : List ℕ) (ws : List (List ℕ)) → AllByRecursion IsField (w ∷ ws) → parts (join_with_byte 44 (w ∷ ws)) ≡ w ∷ ws
    split w [] k = rw (slice_split_none (λ b. b == 44) w (none w k.0), trimmed w k.0)
    split w (x ∷ ws) k = rw (slice_split_at (λ b. b == 44) w 44 (join_with_byte 44 (x ∷ ws)) (none w k.0) refl, trimmed w k.0, split x ws k.1)

-- words with a comma between them are fields
pub fields-joined : (states : ℕ) (words : List (List ℕ)) → 2 ≤ length words → AllByRecursion IsField words → fields states (join_with_byte 44 words) ≡ words
fields-joined states [] some h = absurd (omega arith)
fields-joined states (word ∷ []) some h = absurd (omega arith)
fields-joined states (word ∷ next ∷ words) some h = rw (list_any-append (λ b. b == 44) word (44 ∷ join_with_byte 44 (next ∷ words)), or-true, and-false) (parts-joined (word ∷ next ∷ words) (omega arith) h)

-- the variables are these sets, by the names that are written
pub record AreNamed (variables : Variables) (sets : List (List ℕ)) : Type 0 where
  pub count : variables.defined ≡ length sets
  pub named : (number : ℕ) → number < length sets → variables.named (variable_name number) ≡ Some (record { number = number; states = slice_index_or sets number [] })

-- entries read back
entry-read : (n number : ℕ) (variables : Variables) (sets : List (List ℕ)) (e : Entry) → n ≤ 256 → AreNamed variables sets → IsEntryOf n sets e → entry_of n variables number (entry_text e) ≡ Ok e
entry-read n number variables sets e low are is = grind (arith, nat_tests, number_of-decimal)

pub entries-read : (n number : ℕ) (variables : Variables) (sets : List (List ℕ)) (entries : List Entry) → n ≤ 256 → AreNamed variables sets
    → AllByRecursion (IsEntryOf n sets) entries → each (entry_of n variables number) (map entry_text entries) ≡ Ok entries
entries-read n number variables sets [] low are h = refl
entries-read n number variables sets (e ∷ entries) low are h = rw (entry-read n number variables sets e low are h.0, entries-read n number variables sets entries low are h.1)

-- a line without an a defines no variable
pub defines_none : (line : List ℕ) → AllByRecursion (λ b. (b == 97) ≡ false) line → defines_variable line ≡ false
defines_none line h = grind (arith, nat_tests)
