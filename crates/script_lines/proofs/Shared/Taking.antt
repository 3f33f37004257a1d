-- Lines that are taken one after another.
use Rattle.script_lines.proofs.Names.{Ahead, Bool, Broken, Ended, EndsHere, GrowsText, IsAtEnd, IsText, KeptLine, LineTaken, List, MayFollow, NoEndAmong, NoLineFeed, None, NoneEnds, Option, Says, Some, StopsInLine, TakesBytes, TakesInto}
use Rattle.script_lines.proofs.Names.{TakesLine, TextTaken, [], ap, append-nil, append_assoc, arith, false, full_line, is_end, last_line, len_of, length, length-append, lines_from, lines_until, next_number, option_map, raw_bytes, raw_of}
use Rattle.script_lines.proofs.Names.{refl, subst, sym, take, take-append-le, trim, true, ℕ, ◌++◌, ◌+◌, ◌<◌, ◌^◌, ◌∙◌, ◌∷◌, ◌≡◌, ◌≢◌, ◌≤◌}
use Rattle.std.proofs.Math.Seq.{take-length}
use Rattle.script_lines.proofs.Shared.Ahead.{takes_then}
use Rattle.text_lines.specs.Lines.{End, Line}
use Rattle.script_lines.specs.declared.kept_line.LineFound.{LineFound}
use Rattle.script_lines.specs.declared.kept_line.LineFound.TheVariants as found

-- ---- one line

lines_from-line : (stop : End) (begun seen more : List ℕ) → NoLineFeed seen → lines_from stop begun (seen ++ 10 ∷ more) ≡ full_line (begun ++ seen) ∷ lines_from stop [] more
lines_from-line stop begun [] more h = ap (λ v. full_line v ∷ lines_from stop [] more) (sym (append-nil begun))
lines_from-line stop begun (b ∷ bs) more h = rw h.0 (lines_from-line stop (begun ++ b ∷ []) bs more h.1 ∙ ap (λ v. full_line v ∷ lines_from stop [] more) (append_assoc begun (b ∷ []) bs))

lines_from-rest : (stop : End) (begun seen : List ℕ) → NoLineFeed seen → lines_from stop begun seen ≡ last_line stop (begun ++ seen)
lines_from-rest stop begun [] h = ap (last_line stop) (sym (append-nil begun))
lines_from-rest stop begun (b ∷ bs) h = rw h.0 (lines_from-rest stop (begun ++ b ∷ []) bs h.1 ∙ ap (last_line stop) (append_assoc begun (b ∷ []) bs))

last_line-ended : (seen : List ℕ) → seen ≢ [] → last_line Ended seen ≡ record { says = trim seen; raw = seen } ∷ []
last_line-ended [] n = absurd (n refl)
last_line-ended (b ∷ bs) n = refl

taken_line : (old new : Ahead) (before after : Option (List ℕ)) (kept : KeptLine) (seen : List ℕ) → NoLineFeed seen
    → GrowsText before after (raw_of found.Line seen) → TakesLine found.Line old new seen kept → TakesInto found.Line old new kept before after
taken_line old new before after kept seen h g t = (
  record {
    line = full_line seen;
    taken = t.0;
    law = λ stop more f. ap (lines_until stop) (append_assoc seen (10 ∷ []) more) ∙ lines_from-line stop [] seen more h;
    says = t.1;
    at_end = λ e. absurd (cc);
  },
  g,
)

taken_last : (old new : Ahead) (before after : Option (List ℕ)) (kept : KeptLine) (seen : List ℕ) → NoLineFeed seen
    → GrowsText before after (raw_of found.Last seen) → TakesLine found.Last old new seen kept → TakesInto found.Last old new kept before after
taken_last old new before after kept seen h g t = (
  record {
    line = record { says = trim seen; raw = seen };
    taken = t.0;
    law = λ stop more f. ended stop more f.0 f.1;
    says = t.3;
    at_end = λ e. t.1;
  },
  g,
)
  where
    ended : (stop : End) (more : List ℕ) → stop ≡ Ended → more ≡ [] → lines_until stop (seen ++ more) ≡ record { says = trim seen; raw = seen } ∷ lines_until stop more
    ended stop more e f =
        ap (λ m. lines_until stop (seen ++ m)) f ∙ ap (lines_until stop) (append-nil seen) ∙ ap (λ s. lines_until s seen) e ∙ lines_from-rest Ended [] seen h ∙ last_line-ended seen t.2
        ∙ ap (λ m. record { says = trim seen; raw = seen } ∷ lines_until Ended m) (sym f) ∙ ap (λ s. record { says = trim seen; raw = seen } ∷ lines_until s more) (sym e)

-- what was read of a line is a line of the script
pub takes_into : (found : LineFound) (old new : Ahead) (before after : Option (List ℕ)) (kept : KeptLine) (seen : List ℕ) → NoLineFeed seen
    → GrowsText before after (raw_of found seen) → TakesLine found old new seen kept → TakesInto found old new kept before after
takes_into found.Line old new before after kept seen h g t = taken_line old new before after kept seen h g t
takes_into found.Last old new before after kept seen h g t = taken_last old new before after kept seen h g t
takes_into found.End old new before after kept seen h g t = (t.1, t.2)

-- what was read of a line that was broken off is no line
pub stops_in_line : (old new : Ahead) (seen : List ℕ) → NoLineFeed seen → TakesBytes old new seen → StopsInLine old new
stops_in_line old new seen h c = record { seen = seen; taken = c; none = lines_from-rest Broken [] seen h }

-- a line has a byte at least
some_raw : (raw : List ℕ) (line : Line) → lines_until Ended (raw ++ []) ≡ line ∷ lines_until Ended [] → 0 < length raw
some_raw [] line e = absurd (cc)
some_raw (b ∷ bs) line e = omega arith

follows_none : (last : Bool) → MayFollow last Ended []
follows_none true = (refl, refl)
follows_none false = tt

pub line_falls : (last : Bool) (old new : Ahead) (kept : KeptLine) → LineTaken last old new kept → new.room < old.room
line_falls last old new kept t =
    let some : 0 < length t.line.raw = some_raw t.line.raw t.line (t.law Ended [] (follows_none last)) in
    omega (arith, t.taken.counted, some)

pub found_falls : (it : LineFound) (old new : Ahead) (before after : Option (List ℕ)) (kept : KeptLine) → it ≢ found.End → TakesInto it old new kept before after → new.room < old.room
found_falls found.Line old new before after kept x t = line_falls false old new kept t.0
found_falls found.Last old new before after kept x t = line_falls true old new kept t.0
found_falls found.End old new before after kept x t = absurd (x refl)

-- every line that can come has a number
some_seen : (seen : List ℕ) → seen ≢ [] → 0 < length seen
some_seen [] n = absurd (n refl)
some_seen (b ∷ bs) n = omega arith

pub numbers_line : (it : LineFound) (old new : Ahead) (seen : List ℕ) (kept : KeptLine) (n : ℕ) → TakesLine it old new seen kept → n + old.room < 2 ^ 64 → next_number it n + new.room < 2 ^ 64
numbers_line found.Line old new seen kept n t h = omega (arith, t.0.counted, length-append seen (10 ∷ []), h)
numbers_line found.Last old new seen kept n t h = let some = some_seen seen t.2 in omega (arith, t.0.counted, some, h)
numbers_line found.End old new seen kept n t h = omega (arith, t.1.counted, h)

-- ---- the lines of a text

-- the lines of a text so far
pub record TextSoFar (old new : Ahead) (text : Option (List ℕ)) (n m : ℕ) : Type 0 where
  pub lines : List Line
  pub taken : TakesBytes old new (raw_bytes lines)
  pub law : (stop : End) (more : List ℕ) → lines_until stop (raw_bytes lines ++ more) ≡ lines ++ lines_until stop more
  pub inside : NoneEnds lines
  pub is : IsText text (raw_bytes lines)
  pub number : m ≡ n + length lines

raw_bytes-push : (lines : List Line) (line : Line) → raw_bytes (lines ++ line ∷ []) ≡ raw_bytes lines ++ line.raw
raw_bytes-push [] line = append-nil line.raw
raw_bytes-push (l ∷ lines) line = ap (λ t. l.raw ++ t) (raw_bytes-push lines line) ∙ sym (append_assoc l.raw (raw_bytes lines) line.raw)

none_ends-push : (lines : List Line) (line : Line) → NoneEnds lines → is_end line.says ≡ false → NoneEnds (lines ++ line ∷ [])
none_ends-push [] line h e = (e, tt)
none_ends-push (l ∷ lines) line h e = (h.0, none_ends-push lines line h.1 e)

is_text-grows : (before after : Option (List ℕ)) (bs raw : List ℕ) → GrowsText before after raw → IsText before bs → IsText after (bs ++ raw)
is_text-grows before None bs raw g i = tt
is_text-grows None (Some ys) bs raw g i = absurd g
is_text-grows (Some xs) (Some ys) bs raw g i = g ∙ ap (λ t. t ++ raw) i

is_text-cut : (before after : Option (List ℕ)) (bs raw : List ℕ) → GrowsText before after raw → IsText before bs → IsText (option_map (take (len_of before)) after) bs
is_text-cut before None bs raw g i = tt
is_text-cut None (Some ys) bs raw g i = absurd g
is_text-cut (Some xs) (Some ys) bs raw g i =
    let short : length xs ≤ length xs = omega arith in
    ap (take (length xs)) g ∙ take-append-le (length xs) xs raw short ∙ take-length xs ∙ i

-- a line that does not end the text is the text's
pub text_goes_on : (old mid new : Ahead) (before after : Option (List ℕ)) (kept : KeptLine) (n m k : ℕ) → (t : LineTaken false mid new kept)
    → GrowsText before after t.line.raw → is_end t.line.says ≡ false → k ≡ m + 1 → TextSoFar old mid before n m → TextSoFar old new after n k
text_goes_on old mid new before after kept n m k t g other e so = record {
  lines = so.lines ++ t.line ∷ [];
  taken = subst (TakesBytes old new) (sym (raw_bytes-push so.lines t.line)) (takes_then old mid new (raw_bytes so.lines) t.line.raw so.taken t.taken);
  law = λ stop more. ap (λ v. lines_until stop (v ++ more)) (raw_bytes-push so.lines t.line) ∙ ap (lines_until stop) (append_assoc (raw_bytes so.lines) t.line.raw more) ∙ so.law stop (t.line.raw ++ more)
      ∙ ap (λ ls. so.lines ++ ls) (t.law stop more tt) ∙ sym (append_assoc so.lines (t.line ∷ []) (lines_until stop more));
  inside = none_ends-push so.lines t.line so.inside other;
  is = subst (IsText after) (sym (raw_bytes-push so.lines t.line)) (is_text-grows before after (raw_bytes so.lines) t.line.raw g so.is);
  number = omega (arith, length-append so.lines (t.line ∷ []), so.number);
}

-- the line that ends the text
pub text_ends : (last : Bool) (old mid new : Ahead) (before after : Option (List ℕ)) (kept : KeptLine) (n m k : ℕ) → (t : LineTaken last mid new kept)
    → GrowsText before after t.line.raw → is_end t.line.says ≡ true → k ≡ m + 1 → TextSoFar old mid before n m
    → TextTaken last (option_map (take (len_of before)) after) old new n k
text_ends last old mid new before after kept n m k t g ends e so = record {
  lines = so.lines;
  closing = t.line;
  taken = takes_then old mid new (raw_bytes so.lines) t.line.raw so.taken t.taken;
  law = λ stop more f. ap (lines_until stop) (append_assoc (raw_bytes so.lines) t.line.raw more) ∙ so.law stop (t.line.raw ++ more) ∙ ap (λ ls. so.lines ++ ls) (t.law stop more f);
  inside = so.inside;
  ends = ends;
  is = is_text-cut before after (raw_bytes so.lines) t.line.raw g so.is;
  number = omega (arith, so.number);
  at_end = t.at_end;
}

-- the script ends behind a line of the text
pub text_stops : (old mid new : Ahead) (text : Option (List ℕ)) (n m : ℕ) → TextSoFar old mid text n m → EndsHere mid new → NoEndAmong Ended old new × IsAtEnd new.bytes
text_stops old mid new text n m so e = (
  record {
    bytes = raw_bytes so.lines ++ [];
    taken = takes_then old mid new (raw_bytes so.lines) [] so.taken e.0;
    inside = subst NoneEnds (sym (so.law Ended [] ∙ append-nil so.lines)) so.inside;
  },
  e.1,
)

-- the script's last line does not end the text
pub text_stops_last : (old mid new : Ahead) (before : Option (List ℕ)) (kept : KeptLine) (n m : ℕ) → (t : LineTaken true mid new kept)
    → is_end t.line.says ≡ false → TextSoFar old mid before n m → NoEndAmong Ended old new × IsAtEnd new.bytes
text_stops_last old mid new before kept n m t other so = (
  record {
    bytes = raw_bytes so.lines ++ t.line.raw;
    taken = takes_then old mid new (raw_bytes so.lines) t.line.raw so.taken t.taken;
    inside = subst NoneEnds (sym (so.law Ended t.line.raw ∙ ap (λ v. so.lines ++ lines_until Ended v) (sym (append-nil t.line.raw))
        ∙ ap (λ ls. so.lines ++ ls) (t.law Ended [] (refl, refl)))) (none_ends-push so.lines t.line so.inside other);
  },
  t.at_end refl,
)

-- the reading breaks off in the text
pub text_breaks : (old mid new : Ahead) (text : Option (List ℕ)) (n m : ℕ) → TextSoFar old mid text n m → StopsInLine mid new → NoEndAmong Broken old new
text_breaks old mid new text n m so s = record {
  bytes = raw_bytes so.lines ++ s.seen;
  taken = takes_then old mid new (raw_bytes so.lines) s.seen so.taken s.taken;
  inside = subst NoneEnds (sym (so.law Broken s.seen ∙ ap (λ ls. so.lines ++ ls) s.none ∙ append-nil so.lines)) so.inside;
}

-- ---- the same by what was found

pub text_goes_on_at : (it : LineFound) (old mid new : Ahead) (before after : Option (List ℕ)) (kept : KeptLine) (n m k : ℕ) → it ≢ found.End
    → it ≢ found.Last → TakesInto it mid new kept before after → ((says : List ℕ) → Says kept says → false ≡ is_end says) → k ≡ next_number it m
    → TextSoFar old mid before n m → TextSoFar old new after n k
text_goes_on_at found.Line old mid new before after kept n m k x y t other e so = text_goes_on old mid new before after kept n m k t.0 t.1 (sym (other t.0.line.says t.0.says)) e so
text_goes_on_at found.Last old mid new before after kept n m k x y t other e so = absurd (y refl)
text_goes_on_at found.End old mid new before after kept n m k x y t other e so = absurd (x refl)

pub text_ends_at : (it : LineFound) (last : Bool) (old mid new : Ahead) (before after final : Option (List ℕ)) (kept : KeptLine) (n m k : ℕ)
    → it ≢ found.End → (it ≡ found.Last → last ≡ true) → (it ≡ found.Line → last ≡ false) → final ≡ option_map (take (len_of before)) after
    → TakesInto it mid new kept before after
    → ((says : List ℕ) → Says kept says → true ≡ is_end says) → k ≡ next_number it m → TextSoFar old mid before n m → TextTaken last final old new n k
text_ends_at found.Line last old mid new before after final kept n m k x y z f t ends e so = subst (λ v. TextTaken v final old new n k) (sym (z refl))
    (subst (λ v. TextTaken false v old new n k) (sym f) (text_ends false old mid new before after kept n m k t.0 t.1
    (sym (ends t.0.line.says t.0.says)) e so))
text_ends_at found.Last last old mid new before after final kept n m k x y z f t ends e so = subst (λ v. TextTaken v final old new n k) (sym (y refl))
    (subst (λ v. TextTaken true v old new n k) (sym f) (text_ends true old mid new before after kept n m k t.0 t.1 (sym (ends t.0.line.says t.0.says))
    e so))
text_ends_at found.End last old mid new before after final kept n m k x y z f t ends e so = absurd (x refl)

pub text_stops_at : (it : LineFound) (old mid new : Ahead) (before after : Option (List ℕ)) (kept : KeptLine) (n m : ℕ) → it ≡ found.End
    → TakesInto it mid new kept before after → TextSoFar old mid before n m → NoEndAmong Ended old new × IsAtEnd new.bytes
text_stops_at it old mid new before after kept n m e t so = text_stops old mid new before n m so (subst (λ v. TakesInto v mid new kept before after) e t)

pub text_stops_last_at : (it : LineFound) (old mid new : Ahead) (before after : Option (List ℕ)) (kept : KeptLine) (n m : ℕ) → it ≡ found.Last
    → TakesInto it mid new kept before after → ((says : List ℕ) → Says kept says → false ≡ is_end says) → TextSoFar old mid before n m
    → NoEndAmong Ended old new × IsAtEnd new.bytes
text_stops_last_at it old mid new before after kept n m e t other so =
    let u : TakesInto found.Last mid new kept before after = subst (λ v. TakesInto v mid new kept before after) e t in
    text_stops_last old mid new before kept n m u.0 (sym (other u.0.line.says u.0.says)) so
