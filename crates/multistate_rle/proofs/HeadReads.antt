-- The two lines before a written body read back: the comment gives the place and the generation, the header the name.
use Rattle.multistate_rle.proofs.Names.{All, All-from_recursion, AllByRecursion, Bool, IsDigit, IsLine, IsName, IsNameByte, IsPrinted, IsVisible, List, None, Ok, Some, [], after_comment, after_part, all_append, all_so, all_tested, ap}
use Rattle.multistate_rle.proofs.Names.{append-nil, arith, bytes_eq, codes, coordinate_of, cut_at, decimal, decimal-bytes, decimal-some, differs, drop-append-add, ends-append, ends-behind, ends-visible, false, fold, fold-append}
use Rattle.multistate_rle.proofs.Names.{generation_in, ints, is_blank, is_printed, is_sign, is_visible, length, list_all, min, name-visible, name_after_width, nat_tests, neg_ℤ, negsuc, not, not-true, number_of-decimal, or_from, parts}
use Rattle.multistate_rle.proofs.Names.{place_in, plain_origin, pos, printed-tested, refl, rule_name, signed_decimal, signed_of, size_in, suc, take-append_seam, tight, trim, trim-blank, true, value_in, visible-printed, visible-solid}
use Rattle.multistate_rle.proofs.Names.{visible-tested, ℕ, ℤ, ◌++◌, ◌-◌, ◌<ℤ◌, ◌<◌, ◌==◌, ◌^◌, ◌∙◌, ◌∷◌, ◌≡◌, ◌≤ℤ◌, ◌≤◌}
use Rattle.std.proofs.lemmas.List.Splits.{slice_split_at, slice_split_none}
use Rattle.text_lines.proofs.Shared.Pieces.{position-at, position-none}
use Rattle.text_lines.specs.Numbers.{number_of}

-- a byte that isn't this one
abbrev IsOther : ℕ → ℕ → Type 0
IsOther byte b = (b == byte) ≡ false

others : (byte : ℕ) (bs : List ℕ) → list_all (λ b. not (b == byte)) bs ≡ true → AllByRecursion (IsOther byte) bs
others byte bs h = all_tested (IsOther byte) (λ b. not (b == byte)) bs (λ b k. not-true (b == byte) k) h

-- bytes with the first of this kind between two parts
cut-first : (byte : ℕ) (xs ys : List ℕ) → AllByRecursion (IsOther byte) xs → cut_at byte (xs ++ byte ∷ ys) ≡ Some (xs, ys)
cut-first byte xs ys h = grind (arith, nat_tests, position-at, take-append_seam, drop-append-add)

-- bytes with none of this kind
cut-none : (byte : ℕ) (xs : List ℕ) → AllByRecursion (IsOther byte) xs → cut_at byte xs ≡ None
cut-none byte xs h = rw (position-none (λ b. b == byte) xs h) refl

-- a digit or a minus
abbrev IsNumeric : ℕ → Type 0
IsNumeric b = (45 ≤ b) × (b ≤ 57)

decimal-numeric : (n : ℕ) → n < 2 ^ 64 → AllByRecursion IsNumeric (decimal n)
decimal-numeric n h = all_so IsDigit IsNumeric (decimal n) (λ b k. let low : 48 ≤ b = k.0 in let high : b ≤ 57 = k.1 in (omega arith, omega arith)) (decimal-bytes n h)

numeric-visible : (bs : List ℕ) → AllByRecursion IsNumeric bs → AllByRecursion IsVisible bs
numeric-visible bs h = all_so IsNumeric IsVisible bs (λ b k. let low : 45 ≤ b = k.0 in let high : b ≤ 57 = k.1 in (omega arith, omega arith)) h

numeric-other : (byte : ℕ) (bs : List ℕ) → byte < 45 → AllByRecursion IsNumeric bs → AllByRecursion (IsOther byte) bs
numeric-other byte bs small h = all_so IsNumeric (IsOther byte) bs (λ b k. let low : 45 ≤ b = k.0 in differs b byte (λ e. omega arith)) h

-- a number that coordinates may be
pub record IsCoordinate (z : ℤ) : Type 0 where
  pub low : neg_ℤ (pos (2 ^ 61)) ≤ℤ z
  pub high : z <ℤ pos (2 ^ 61)

signed-bytes : (z : ℤ) → IsCoordinate z → AllByRecursion IsNumeric (signed_decimal z)
signed-bytes z h = grind (arith, ints, decimal-numeric)

signed-some : (z : ℤ) → IsCoordinate z → 0 < length (signed_decimal z)
signed-some z h = grind (arith, ints, decimal-some)

signed_of-digits : (ds : List ℕ) (n : ℕ) → 0 < length ds → AllByRecursion IsDigit ds → number_of ds ≡ Some n → signed_of ds ≡ Some (pos n)
signed_of-digits ds n some h is = grind (arith, differs)

signed_of-signed : (z : ℤ) → IsCoordinate z → signed_of (signed_decimal z) ≡ Some z
signed_of-signed (pos n) h =
    let small : n < 2 ^ 64 = grind (arith, ints) in
    signed_of-digits (decimal n) n (decimal-some n small) (decimal-bytes n small) (number_of-decimal n small)
signed_of-signed (negsuc n) h = let small : suc n < 2 ^ 64 = grind (arith, ints) in grind (arith, number_of-decimal)

coordinate-reads : (z : ℤ) → IsCoordinate z → coordinate_of (signed_decimal z) ≡ Some z
coordinate-reads z h = let low = h.low in let high = h.high in rw (signed_of-signed z h) (grind (arith, ints))

-- the part of the place
abbrev place_part : ℤ → ℤ → List ℕ
place_part x y = codes "Pos=" ++ signed_decimal x ++ 44 ∷ signed_decimal y

place-reads : (x y : ℤ) → IsCoordinate x → IsCoordinate y → place_in (place_part x y) ≡ Some (x, y)
place-reads x y h k = grind (arith, ints, cut-first, numeric-other, signed-bytes, coordinate-reads)

generation-reads : (n : ℕ) → n < 2 ^ 64 → generation_in (codes "Gen=" ++ decimal n) ≡ Some n
generation-reads n h = rw (number_of-decimal n h) (ap (λ m. Some m) (let e : min (2 ^ 64 - 1) n ≡ n = omega arith in e))

-- whether nothing or a sign stands behind some bytes, where `joined` says so before them
abbrev joined_behind : Bool → List ℕ → Bool
joined_behind joined bs = fold (λ (before : Bool) (b : ℕ). is_sign b) joined bs

tight-visible : (joined : Bool) (xs ys : List ℕ) → AllByRecursion IsVisible xs → tight joined (xs ++ ys) ≡ xs ++ tight (joined_behind joined xs) ys
tight-visible joined [] ys h = refl
tight-visible joined (x ∷ xs) ys h = rw (visible-solid x h.0) (ap (λ bs. x ∷ bs) (tight-visible (is_sign x) xs ys h.1))

joined-numeric : (joined : Bool) (bs : List ℕ) → 0 < length bs → AllByRecursion IsNumeric bs → joined_behind joined bs ≡ false
joined-numeric joined [] some h = absurd (omega arith)
joined-numeric joined (b ∷ []) some h = let low : 45 ≤ b = h.0.0 in let high : b ≤ 57 = h.0.1 in or_from _ _ (differs b 61 (λ e. omega arith)) (differs b 44 (λ e. omega arith))
joined-numeric joined (b ∷ c ∷ bs) some h = joined-numeric (is_sign b) (c ∷ bs) (omega arith) h.1

-- two words with a blank before each
tight-words : (xs ys : List ℕ) (b : ℕ) → AllByRecursion IsVisible xs → joined_behind true xs ≡ false → AllByRecursion IsVisible (b ∷ ys) → is_sign b ≡ false → tight true (32 ∷ (xs ++ 32 ∷ b ∷ ys)) ≡ xs ++ 32 ∷ b ∷ ys
tight-words xs ys b h loosely k apart =
    let first = tight-visible true xs (32 ∷ b ∷ ys) h in
    let last = tight-visible false (b ∷ ys) [] k in
    grind (arith, append-nil, visible-solid, first, last)

solids : (bs : List ℕ) → AllByRecursion IsVisible bs → All (λ b. is_blank b ≡ false) bs
solids bs h = All-from_recursion (λ b. is_blank b ≡ false) bs (all_so IsVisible (λ b. is_blank b ≡ false) bs visible-solid h)

-- a text and bytes behind it
visible-text : (text bs : List ℕ) → list_all is_visible text ≡ true → AllByRecursion IsVisible bs → AllByRecursion IsVisible (text ++ bs)
visible-text text bs h k = all_append IsVisible text bs (visible-tested text h) k

place-visible : (x y : ℤ) → IsCoordinate x → IsCoordinate y → AllByRecursion IsVisible (place_part x y)
place-visible x y h k =
    visible-text (codes "Pos=") _ refl
    (all_append IsVisible (signed_decimal x) _ (numeric-visible _ (signed-bytes x h)) (visible-text (codes ",") (signed_decimal y) refl (numeric-visible _ (signed-bytes y k))))

generation-visible : (n : ℕ) → n < 2 ^ 64 → AllByRecursion IsVisible (codes "Gen=" ++ decimal n)
generation-visible n h = visible-text (codes "Gen=") (decimal n) refl (numeric-visible _ (decimal-numeric n h))

comment-parts : (x y : ℤ) (n : ℕ) → IsCoordinate x → IsCoordinate y → n < 2 ^ 64 → ◌≡◌ {A = List (List ℕ)} (parts (32 ∷ (place_part x y ++ 32 ∷ (codes "Gen=" ++ decimal n)))) (place_part x y ∷ (codes "Gen=" ++ decimal n) ∷ [])
comment-parts x y n h k small =
    grind (arith, ints, fold-append, joined-numeric, signed-some, signed-bytes, tight-words, place-visible, generation-visible, slice_split_at, solids, slice_split_none)

-- the first line
abbrev pub comment_line : ℤ → ℤ → ℕ → List ℕ
comment_line x y n = codes "#CXRLE " ++ (codes "Pos=" ++ signed_decimal x ++ 44 ∷ signed_decimal y) ++ 32 ∷ (codes "Gen=" ++ decimal n)

-- it gives the place and the generation
pub comment-reads : (x y : ℤ) (n : ℕ) → IsCoordinate x → IsCoordinate y → n < 2 ^ 64 → after_comment plain_origin (comment_line x y n) ≡ record { x = x; y = y; generation = n }
comment-reads x y n h k small = ap (fold after_part plain_origin) (comment-parts x y n h k small) ∙ rw (place-reads x y h k) (rw (generation-reads n small) refl)

-- a field with a blank on either side of its sign
value-reads : (key front value : List ℕ) → AllByRecursion (IsOther 61) front → bytes_eq (trim front) key ≡ true → AllByRecursion IsVisible value → value_in key (front ++ 61 ∷ 32 ∷ value) ≡ Some value
value-reads key front value h is k = grind (arith, cut-first, trim-blank)

size-reads : (key front : List ℕ) (n : ℕ) → AllByRecursion (IsOther 61) front → bytes_eq (trim front) key ≡ true → n < 2 ^ 64 → size_in key (front ++ 61 ∷ 32 ∷ decimal n) ≡ Some n
size-reads key front n h is small = grind (arith, value-reads, numeric-visible, decimal-numeric, number_of-decimal)

-- the second line
abbrev pub header_line : ℕ → ℕ → List ℕ → List ℕ
header_line width height name = codes "x = " ++ decimal width ++ 44 ∷ (codes " y = " ++ decimal height ++ 44 ∷ (codes " rule = " ++ name))

-- the first field of some, which ends with a number
field-cut : (front rest : List ℕ) (n : ℕ) → list_all (λ b. not (b == 44)) front ≡ true → n < 2 ^ 64 → cut_at 44 (front ++ decimal n ++ 44 ∷ rest) ≡ Some (front ++ decimal n, rest)
field-cut front rest n h small =
    cut-first 44 (front ++ decimal n) rest (all_append (IsOther 44) front (decimal n) (others 44 front h) (numeric-other 44 (decimal n) (omega arith) (decimal-numeric n small)))

height-reads : (height : ℕ) (name : List ℕ) → height < 2 ^ 64 → AllByRecursion IsNameByte name
    → name_after_width (codes " y = " ++ decimal height ++ 44 ∷ (codes " rule = " ++ name)) ≡ Some name
height-reads height name small h =
    rw (field-cut (codes " y = ") (codes " rule = " ++ name) height refl small)
    (rw (size-reads (codes "y") (codes " y ") height (others 61 (codes " y ") refl) refl small)
    (value-reads (codes "rule") (codes " rule ") name (others 61 (codes " rule ") refl) refl (name-visible name h)))

-- it gives the name
pub header-reads : (width height : ℕ) (name : List ℕ) → width < 2 ^ 64 → height < 2 ^ 64 → AllByRecursion IsNameByte name → rule_name (header_line width height name) ≡ Ok name
header-reads width height name wide high h =
    rw (field-cut (codes "x = ") (codes " y = " ++ decimal height ++ 44 ∷ (codes " rule = " ++ name)) width refl wide)
    (rw (size-reads (codes "x") (codes "x ") width (others 61 (codes "x ") refl) refl wide)
    (rw (height-reads height name high h) (rw (cut-none 58 name (all_so IsNameByte (IsOther 58) name (λ b k. differs b 58 k.other) h)) refl)))

visibles-printed : (bs : List ℕ) → AllByRecursion IsVisible bs → AllByRecursion IsPrinted bs
visibles-printed bs h = all_so IsVisible IsPrinted bs visible-printed h

-- a text, visible bytes, and bytes behind them
printed-text : (text bs rest : List ℕ) → list_all is_printed text ≡ true → AllByRecursion IsVisible bs → AllByRecursion IsPrinted rest
    → AllByRecursion IsPrinted (text ++ (bs ++ rest))
printed-text text bs rest h visible k = all_append IsPrinted text (bs ++ rest) (printed-tested text h) (all_append IsPrinted bs rest (visibles-printed bs visible) k)

-- both lines are printed, and have no blanks at their ends
pub comment-is_line : (x y : ℤ) (n : ℕ) → IsCoordinate x → IsCoordinate y → n < 2 ^ 64 → IsLine (comment_line x y n)
comment-is_line x y n h k small =
    let age : List ℕ = codes "Gen=" ++ decimal n in
    let visible = generation-visible n small in
    record {
      printed = printed-text (codes "#CXRLE ") (place_part x y) (32 ∷ age) refl (place-visible x y h k)
          (all_append IsPrinted (codes " ") age (printed-tested (codes " ") refl) (visibles-printed age visible));
      trimmed = (ends-append (codes "#CXRLE " ++ place_part x y) (32 ∷ age) (ends-behind 32 age (ends-visible age (omega arith) visible))).trimmed;
    }

pub header-is_line : (width height : ℕ) (name : List ℕ) → width < 2 ^ 64 → height < 2 ^ 64 → IsName name → IsLine (header_line width height name)
header-is_line width height name wide high h =
    let visible = name-visible name h.bytes in
    let rule = ends-append (decimal height) (codes ", rule = " ++ name) (ends-append (codes ", rule = ") name (ends-visible name h.some visible)) in
    record {
      printed = printed-text (codes "x = ") (decimal width) _ refl (numeric-visible _ (decimal-numeric width wide))
          (printed-text (codes ", y = ") (decimal height) _ refl (numeric-visible _ (decimal-numeric height high))
          (all_append IsPrinted (codes ", rule = ") name (printed-tested (codes ", rule = ") refl) (visibles-printed name visible)));
      trimmed = (ends-append (codes "x = " ++ decimal width) _ (ends-append (codes ", y = ") (decimal height ++ (codes ", rule = " ++ name)) rule)).trimmed;
    }
