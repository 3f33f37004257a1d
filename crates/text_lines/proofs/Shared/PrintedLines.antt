-- Printed lines: their ends, and that texts of them come back.
use Rattle.text_lines.proofs.Names.{AllByRecursion, List, NoLineFeed, [], all_so, ap, append_assoc, arith, before_end, length, refl, says, strip_carriage_return, text_of_lines, trim, trim_end, ℕ, ◌++◌, ◌<◌, ◌∷◌, ◌≡◌, ◌≤◌}
use Rattle.text_lines.specs.RuleNames.{IsNameByte}
use Rattle.text_lines.proofs.Shared.ByteRanges.{IsPrinted, IsVisible, differs, visible-printed, visible-solid}
use Rattle.text_lines.proofs.Shared.LineEnds.{one-line, says-line, strip-none}

-- a printed line without blanks at its ends
pub record IsLine (line : List ℕ) : Type 0 where
  pub printed : AllByRecursion IsPrinted line
  pub trimmed : trim line ≡ line

-- the name of a rule is visible
pub name-visible : (name : List ℕ) → AllByRecursion IsNameByte name → AllByRecursion IsVisible name
name-visible name h = all_so IsNameByte IsVisible name (λ b k. (k.low, k.high)) h

-- printed bytes are on one line, and have no carriage return at their end
pub strip-printed : (xs : List ℕ) → AllByRecursion IsPrinted xs → strip_carriage_return xs ≡ xs
strip-printed xs h = strip-none IsPrinted (λ b k. let low : 32 ≤ b = k.0 in differs b 13 (λ e. omega arith)) xs h

pub printed-one : (xs : List ℕ) → AllByRecursion IsPrinted xs → NoLineFeed xs
printed-one xs h = one-line IsPrinted (λ b k. let low : 32 ≤ b = k.0 in differs b 10 (λ e. omega arith)) xs h

-- what a text of such lines says is these lines
pub says-lines : (lines : List (List ℕ)) → AllByRecursion IsLine lines → says (text_of_lines lines) ≡ lines
says-lines [] h = refl
says-lines (line ∷ lines) h =
    let first = h.0 in
    rw (append_assoc line (10 ∷ []) (text_of_lines lines), says-line line (text_of_lines lines) (printed-one line first.printed), strip-printed line first.printed, first.trimmed)
    (ap (λ (others : List (List ℕ)). line ∷ others) (says-lines lines h.1))

-- bytes of which the last is no blank
pub record EndsSolid (bs : List ℕ) : Type 0 where
  pub some : 0 < length bs
  pub trimmed : trim_end bs ≡ bs

pub ends-behind : (b : ℕ) (bs : List ℕ) → EndsSolid bs → EndsSolid (b ∷ bs)
ends-behind b [] h = let some = h.some in absurd (omega arith)
ends-behind b (c ∷ bs) h = record { some = omega arith; trimmed = ap (before_end b) h.trimmed }

pub ends-append : (xs ys : List ℕ) → EndsSolid ys → EndsSolid (xs ++ ys)
ends-append [] ys h = h
ends-append (x ∷ xs) ys h = ends-behind x (xs ++ ys) (ends-append xs ys h)

pub ends-visible : (bs : List ℕ) → 0 < length bs → AllByRecursion IsVisible bs → EndsSolid bs
ends-visible [] some h = absurd (omega arith)
ends-visible (b ∷ []) some h = record { some = some; trimmed = rw (visible-solid b h.0) refl }
ends-visible (b ∷ c ∷ bs) some h = ends-behind b (c ∷ bs) (ends-visible (c ∷ bs) (omega arith) h.1)

-- a line that begins with a visible byte and ends with no blank
pub line-between : (b : ℕ) (bs : List ℕ) → IsVisible b → AllByRecursion IsPrinted bs → EndsSolid (b ∷ bs) → IsLine (b ∷ bs)
line-between b bs h printed ends = record { printed = (visible-printed b h, printed); trimmed = rw (visible-solid b h) ends.trimmed }

-- visible bytes, one at least
pub line-visible : (bs : List ℕ) → 0 < length bs → AllByRecursion IsVisible bs → IsLine bs
line-visible [] some h = absurd (omega arith)
line-visible (b ∷ bs) some h = line-between b bs h.0 (all_so IsVisible IsPrinted bs visible-printed h.1) (ends-visible (b ∷ bs) some h)

-- a blank before visible bytes is trimmed
pub trim-blank : (bs : List ℕ) → AllByRecursion IsVisible bs → trim (32 ∷ bs) ≡ bs
trim-blank [] h = refl
trim-blank (b ∷ bs) h = (line-visible (b ∷ bs) (omega arith) h).trimmed
