-- Lines of numbers in decimal, and their words.
use Rattle.text_lines.proofs.Names.{All, All-from_recursion, AllByRecursion, Bool, List, [], all_append, all_so, ap, append-nil, arith, decimal, false, filter, is_word, length, map, numbers_line, refl, slice_split, slice_split_at}
use Rattle.text_lines.proofs.Names.{slice_split_none, subst, sym, true, ℕ, ◌++◌, ◌<◌, ◌∷◌, ◌≡◌}
use Rattle.text_lines.proofs.Shared.ByteRanges.{IsDigit, IsPrinted, IsVisible, digit-visible, visible-printed}
use Rattle.text_lines.proofs.Shared.Decimals.{IsNumeral, IsWide, decimal-bytes, decimal-numeral, decimal-some}
use Rattle.text_lines.proofs.Shared.PrintedLines.{EndsSolid, IsLine, ends-append, ends-behind, ends-visible, line-between}

-- a test that parts words: a space passes it, and no digit does
pub record Parts (p : ℕ → Bool) : Type 0 where
  pub space : p 32 ≡ true
  pub digit : (b : ℕ) → IsDigit b → p b ≡ false

no-part : (p : ℕ → Bool) → Parts p → (n : ℕ) → IsWide n → All (λ b. p b ≡ false) (decimal n)
no-part p h n wide = All-from_recursion (λ b. p b ≡ false) (decimal n) (all_so IsDigit (λ b. p b ≡ false) (decimal n) h.digit (decimal-bytes n wide))

some-word : (ds : List ℕ) → 0 < length ds → is_word ds ≡ true
some-word [] some = absurd (omega arith)
some-word (d ∷ ds) some = refl

-- the words of a line of numbers write these numbers
pub words-numbers : (p : ℕ → Bool) → Parts p → (n : ℕ) (ns : List ℕ) → AllByRecursion IsWide (n ∷ ns) → filter is_word (slice_split p (numbers_line (n ∷ ns))) ≡ map decimal (n ∷ ns)
words-numbers p h n [] k = rw (slice_split_none p (decimal n) (no-part p h n k.0), some-word (decimal n) (decimal-some n k.0)) refl
words-numbers p h n (m ∷ ns) k =
    rw (slice_split_at p (decimal n) 32 (numbers_line (m ∷ ns)) (no-part p h n k.0) h.space, some-word (decimal n) (decimal-some n k.0))
    (ap (λ (others : List (List ℕ)). decimal n ∷ others) (words-numbers p h m ns k.1))

-- what holds of digits and a space holds of each byte of such a line
pub numbers-bytes : (P : ℕ → Type 0) → P 32 → ((b : ℕ) → IsDigit b → P b) → (n : ℕ) (ns : List ℕ) → AllByRecursion IsWide (n ∷ ns) → AllByRecursion P (numbers_line (n ∷ ns))
numbers-bytes P space digit n [] h = all_so IsDigit P (decimal n) digit (decimal-bytes n h.0)
numbers-bytes P space digit n (m ∷ ns) h =
    all_append P (decimal n) (32 ∷ numbers_line (m ∷ ns)) (all_so IsDigit P (decimal n) digit (decimal-bytes n h.0)) (space, numbers-bytes P space digit m ns h.1)

numbers-ends : (n : ℕ) (ns : List ℕ) → AllByRecursion IsWide (n ∷ ns) → EndsSolid (numbers_line (n ∷ ns))
numbers-ends n [] h = ends-visible (decimal n) (decimal-some n h.0) (all_so IsDigit IsVisible (decimal n) digit-visible (decimal-bytes n h.0))
numbers-ends n (m ∷ ns) h = ends-append (decimal n) (32 ∷ numbers_line (m ∷ ns)) (ends-behind 32 (numbers_line (m ∷ ns)) (numbers-ends m ns h.1))

-- a line that begins with a digit
pub record IsNumberLine (line : List ℕ) : Type 0 where
  pub digit : ℕ
  pub rest : List ℕ
  pub is : line ≡ digit ∷ rest
  pub is_digit : IsDigit digit

numeral-starts : (ds rest : List ℕ) → IsNumeral ds → IsNumberLine (ds ++ rest)
numeral-starts [] rest h = let some = h.some in absurd (omega arith)
numeral-starts (d ∷ ds) rest h = let digits = h.digits in record { digit = d; rest = ds ++ rest; is = refl; is_digit = digits.0 }

-- numbers in decimal are a line that begins with a digit
pub numbers-start : (n : ℕ) (ns : List ℕ) → AllByRecursion IsWide (n ∷ ns) → IsNumberLine (numbers_line (n ∷ ns))
numbers-start n [] h = subst IsNumberLine (append-nil (decimal n)) (numeral-starts (decimal n) [] (decimal-numeral n h.0))
numbers-start n (m ∷ ns) h = numeral-starts (decimal n) (32 ∷ numbers_line (m ∷ ns)) (decimal-numeral n h.0)

pub numbers-line : (n : ℕ) (ns : List ℕ) → AllByRecursion IsWide (n ∷ ns) → IsLine (numbers_line (n ∷ ns))
numbers-line n ns h =
    let starts = numbers-start n ns h in
    let printed = subst (AllByRecursion IsPrinted) starts.is (numbers-bytes IsPrinted (omega arith, omega arith) (λ b k. visible-printed b (digit-visible b k)) n ns h) in
    subst IsLine (sym starts.is) (line-between starts.digit starts.rest (digit-visible starts.digit starts.is_digit) printed.1 (subst EndsSolid starts.is (numbers-ends n ns h)))
