-- Which lines can be out of memory.
use Rattle.desk_script.proofs.Names.{Bool, CanLackMemory, Command, Edit, Format, List, None, Option, Some, ap, arith, asked_by, bytes_eq, codes, command_by, command_of, command_of_words, false, format_of, format_of_words, join_with_byte}
use Rattle.desk_script.proofs.Names.{length, length-append, looking_by, option_map, squashed, start_of, true, words, ℕ, ◌<◌, ◌∷◌, ◌≡◌, ◌≤◌}
use Rattle.std.proofs.lemmas.Slice.Eq.{bytes_eq-Decides}
use Rattle.desk_script.specs.declared.command.Command.TheVariants as command

-- the commands whose words are fixed, and the formats
abbrev is_fixed : Option Command → Bool
is_fixed (Some command.Settle) = true
is_fixed (Some command.Work) = true
is_fixed (Some command.Poll) = true
is_fixed (Some command.List) = true
is_fixed (Some command.Help) = true
is_fixed (Some command.Quit) = true
is_fixed _ = false

abbrev opens : Option Format → Bool
opens None = false
opens (Some format) = true

-- all others can meet it
other-lacks : (n : ℕ) (c : Option Command) → is_fixed c ≡ false → CanLackMemory (asked_by n c)
other-lacks n c h = grind (arith)

edit-open : (e : Option Edit) → is_fixed (option_map command.Edit e) ≡ false
edit-open e = grind (arith)

-- each edit can
pub edit-lacks : (e : Option Edit) (n : ℕ) → CanLackMemory (asked_by n (option_map command.Edit e))
edit-lacks e n = other-lacks n (option_map command.Edit e) (edit-open e)

-- a word is as long as what it is
short : (word text : List ℕ) → bytes_eq word text ≡ true → (bytes_eq word text ≡ true) ×
    (length word ≡ length text)
short word text e = (e, ap length ((bytes_eq-Decides word text).0 e))

-- where no word may follow, none does
-- the first word is short, and so is what stands behind it
abbrev IsShort : List ℕ → List (List ℕ) → Type 0
IsShort word rest = (length word ≤ 6) × (length (join_with_byte 32 rest) ≤ 3)

-- where the first word is none of the first four
pub looked : (word : List ℕ) (rest : List (List ℕ)) → bytes_eq word (codes "settle") ≡ false
    → bytes_eq word (codes "work") ≡ false → bytes_eq word (codes "show") ≡ false
    → bytes_eq word (codes "quit") ≡ false → command_by word rest ≡ looking_by word rest
looked word rest e f g k = grind (arith)

-- of a command that looks
looking-short : (word : List ℕ) (rest : List (List ℕ)) → is_fixed (looking_by word rest) ≡ true → IsShort word rest
looking-short word rest h = grind (arith, short, edit-open)

-- of a command of fixed words
command-short : (word : List ℕ) (rest : List (List ℕ)) → is_fixed (command_by word rest) ≡ true → IsShort word rest
command-short word rest h = grind (arith, short, looking-short)

-- of the command of a text
start-short : (ws : List (List ℕ)) → opens (start_of ws) ≡ true → length (join_with_byte 32 ws) ≤ 3
start-short ws h = grind (arith, short)

text-short : (word : List ℕ) (rest : List (List ℕ)) → opens (format_of_words (word ∷ rest)) ≡ true → IsShort word rest
text-short word rest h = grind (arith, short, start-short)

line-short : (word : List ℕ) (rest : List (List ℕ)) → IsShort word rest → length (join_with_byte 32 (word ∷ rest)) ≤ 64
line-short word rest h = grind (arith, length-append {A = ℕ})

words-fixed : (ws : List (List ℕ)) → is_fixed (command_of_words ws) ≡ true → length (join_with_byte 32 ws) ≤ 64
words-fixed ws h = grind (arith, command-short, line-short)

words-open : (ws : List (List ℕ)) → opens (format_of_words ws) ≡ true → length (join_with_byte 32 ws) ≤ 64
words-open ws h = grind (arith, line-short, text-short)

-- a long line opens no text, and can meet it
none-opens : (o : Option Format) → opens o ≡ false → o ≡ None
none-opens o h = grind (arith)

long-false : (v : Bool) (n : ℕ) → 64 < n → (v ≡ true → n ≤ 64) → v ≡ false
long-false v n long f = grind (arith)

pub long-lacks : (says : List ℕ) (n : ℕ) → 64 < length (squashed says) → (format_of says ≡ None)
    × CanLackMemory (asked_by n (command_of says))
long-lacks says n long = (
  none-opens (format_of says)
      (long-false (opens (format_of says)) (length (squashed says)) long (words-open (words says))),
  other-lacks n (command_of says)
      (long-false (is_fixed (command_of says)) (length (squashed says)) long (words-fixed (words says))),
)
