-- A written pattern reads back whole.
use Rattle.multistate_rle.proofs.Names.{AllByRecursion, CellOutOfRange, Ended, Err, Frame, IsLine, IsName, Line, List, Ok, Origin, Place, Strip, Token, TooManyLive, World, [], after_comment, all_so, ap, append_assoc, ap₂, arith}
use Rattle.multistate_rle.proofs.Names.{begins_with, blank, box_of, codes, cond, decimal, differs, drawn_by, drop, drop-append_seam, false, frame_of, framed_text, full_line, head_from, ints, lay, length, length-append, length-map}
use Rattle.multistate_rle.proofs.Names.{lies_inside, lines, lines_from, list_all, live, live-states, live_count, map, nat_lt, nat_tests, or_from, or_right, packed, pattern_of, plain_origin, printed-one, refl, rule_name, signed_decimal}
use Rattle.multistate_rle.proofs.Names.{solid_from, strip-printed, strip_carriage_return, strips_from, subst, sym, symbols, token_text, tokens, trim, true, world_of, ℕ, ℤ, ◌++◌, ◌+◌, ◌<◌, ◌==◌, ◌>>=◌, ◌^◌, ◌∙◌, ◌∷◌, ◌≡◌, ◌≤◌}
use Rattle.multistate_rle.specs.Laws.{CanBeWritten, WrittenMeansTheSame}
use Rattle.multistate_rle.proofs.BodyReads.{IsWritable, runs_of, packed-reads}
use Rattle.text_lines.proofs.Shared.LineEnds.{line-first}
use Rattle.multistate_rle.proofs.HeadReads.{IsCoordinate, comment_line, comment-reads, header_line, header-reads, comment-is_line, header-is_line}
use Rattle.multistate_rle.proofs.Boxes.{FrameFits, frame-fits}
use Rattle.multistate_rle.proofs.LiveCells.{IsCellOf, lay-live, live-ahead, tokens-writable}
use Rattle.multistate_rle.proofs.StripCells.{set_of, drawn, IsLaidInside, drawn-tokens, live_count-drawn, drawn-inside}

-- the parts of a written pattern, as its two lines and the body behind them
regrouped : (sign place left comma top blank age generation feed x width y height rule name body : List ℕ)
    → ((sign ++ place) ++ left ++ comma ++ top) ++ ((blank ++ age) ++ generation ++ feed) ++ (x ++ width ++ (comma ++ y) ++ height ++ (comma ++ rule) ++ name ++ feed) ++ body
    ≡ ((sign ++ ((place ++ left) ++ (comma ++ top))) ++ (blank ++ (age ++ generation)))
    ++ (feed ++ (((x ++ width) ++ (comma ++ ((y ++ height) ++ (comma ++ (rule ++ name))))) ++ (feed ++ body)))
regrouped sign place left comma top blank age generation feed x width y height rule name body = simp append_assoc

-- such a line says itself
line-says : (line : List ℕ) → IsLine line → trim (strip_carriage_return line) ≡ line
line-says line h = ap trim (strip-printed line h.printed) ∙ h.trimmed

-- a comment line goes to the origin
head-comment : (origin : Origin) (len : ℕ) (line : Line) (lines : List Line) → begins_with 35 line.says ≡ true
    → head_from origin len (line ∷ lines) ≡ head_from (after_comment origin line.says) (len + length line.raw) lines
head-comment origin len line lines h = rw (or_right (length line.says == 0) (begins_with 35 line.says) h) refl

-- the header ends the head
head-header : (origin : Origin) (len : ℕ) (line : Line) (lines : List Line) (name : List ℕ)
    → 0 < length line.says → begins_with 35 line.says ≡ false → rule_name line.says ≡ Ok name
    → head_from origin len (line ∷ lines) ≡ Ok (record { origin = origin; name = name; len = len + length line.raw })
head-header origin len line lines name some h is = rw (or_from (length line.says == 0) (begins_with 35 line.says) (differs (length line.says) 0 (λ e. omega arith)) h) (rw is refl)

-- how many bytes two lines have
abbrev two_lines : List ℕ → List ℕ → ℕ
two_lines first second = (0 + length (first ++ 10 ∷ [])) + length (second ++ 10 ∷ [])

body-left : (first second body : List ℕ) → drop (two_lines first second) (first ++ 10 ∷ (second ++ 10 ∷ body)) ≡ body
body-left first second body =
    let whole : first ++ 10 ∷ (second ++ 10 ∷ body) ≡ ((first ++ 10 ∷ []) ++ (second ++ 10 ∷ [])) ++ body = simp append_assoc in
    let long = length-append (first ++ 10 ∷ []) (second ++ 10 ∷ []) in
    rw whole (grind (arith, long, drop-append_seam ((first ++ 10 ∷ []) ++ (second ++ 10 ∷ [])) body))

-- the head that the two lines give
head-reads : (x y : ℤ) (n width height : ℕ) (name body : List ℕ) → IsCoordinate x → IsCoordinate y → n < 2 ^ 64 → width < 2 ^ 64 → height < 2 ^ 64 → IsName name
    → head_from plain_origin 0 (lines (comment_line x y n ++ 10 ∷ (header_line width height name ++ 10 ∷ body)))
    ≡ Ok (record { origin = record { x = x; y = y; generation = n }; name = name; len = two_lines (comment_line x y n) (header_line width height name) })
head-reads x y n width height name body h k small wide high named =
    let first : List ℕ = comment_line x y n in
    let second : List ℕ = header_line width height name in
    let origin : Origin = record { x = x; y = y; generation = n } in
    let len : ℕ = 0 + length (first ++ 10 ∷ []) in
    let line = comment-is_line x y n h k small in
    let line_then = header-is_line width height name wide high named in
    let says : trim (strip_carriage_return first) ≡ first = line-says first line in
    let says_then : trim (strip_carriage_return second) ≡ second = line-says second line_then in
    ap (head_from plain_origin 0) (line-first Ended [] first (second ++ 10 ∷ body) (printed-one first line.printed))
    ∙ head-comment plain_origin 0 (full_line first) (lines_from Ended [] (second ++ 10 ∷ body)) (ap (begins_with 35) says)
    ∙ ap₂ (λ o left. head_from o len left) (ap (after_comment plain_origin) says ∙ comment-reads x y n h k small)
    (line-first Ended [] second body (printed-one second line_then.printed))
    ∙ head-header origin len (full_line second) (lines_from Ended [] body) name
    (subst (λ bs. 0 < length bs) (sym says_then) (omega arith)) (ap (begins_with 35) says_then) (ap rule_name says_then ∙ header-reads width height name wide high named.bytes)

laid-inside : (states : ℕ) (left top : ℤ) (es : List (Place × ℕ)) → AllByRecursion (IsCellOf states left top) es → AllByRecursion IsLaidInside (map set_of es)
laid-inside states left top [] h = tt
laid-inside states left top (e ∷ es) h = (h.0.inside, laid-inside states left top es h.1)

-- a world that can be written, in a frame
module _ (w : World) (f : Frame) (n states : ℕ) (fits : FrameFits w f) (can : CanBeWritten states w) (two : 2 ≤ states) where
  abbrev origin : Origin
  origin = record { x = f.left; y = f.top; generation = n }

  abbrev written : List Token
  written = tokens f.left (f.top, f.left) (live w)

  -- each count in it is less than this
  abbrev most : ℕ
  most = length (live w) + 2 ^ 62 + 1

  cells : AllByRecursion (IsCellOf states f.left f.top) (live w)
  cells = grind (arith, all_so, live-states)

  writable : AllByRecursion (IsWritable most states) written
  writable =
      tokens-writable most states f.left f.top (f.top, f.left) (live w) (omega arith) (omega arith)
      (grind (arith, ints, fits.left)) (grind (arith, ints, fits.top), grind (arith, ints, fits.left)) cells

  -- the strips of its tokens draw the world
  world-drawn : world_of origin (strips_from 0 0 (runs_of written)) ≡ Ok w
  world-drawn =
      let strips : List Strip = strips_from 0 0 (runs_of written) in
      let corner = live-ahead w states f.left f.top cells in
      let same : drawn origin 0 0 written ≡ map set_of (live w) = drawn-tokens origin 0 0 (f.top, f.left) (live w) (omega (arith, ints)) (omega (arith, ints)) corner in
      let count : live_count strips ≡ length (live w) = live_count-drawn origin strips ∙ ap length same ∙ length-map (live w) set_of in
      let few : nat_lt 16777216 (live_count strips) ≡ false = grind (arith, nat_tests, count, can.few) in
      let inside : list_all (lies_inside origin) strips ≡ true =
      drawn-inside most states 0 0 origin written writable (subst (AllByRecursion IsLaidInside) (sym same) (laid-inside states f.left f.top (live w) cells)) in
      (λ i. cond (few i) (Err TooManyLive) (cond (inside i) (Ok (lay (same i) blank)) (Err CellOutOfRange))) ∙ ap (λ v. Ok v) (lay-live w)

  -- its body gives the world, wherever it stands
  body-reads : (offset : ℕ) → states ≤ 256 → drawn_by origin (symbols (solid_from offset (packed 70 (map (token_text states) written)))) ≡ Ok w
  body-reads offset fit =
      ap (λ read. read >>= λ runs. world_of origin (strips_from 0 0 runs)) (packed-reads most states written 70 (omega (arith, can.few)) fit writable offset) ∙ world-drawn

-- a pattern that is written in a frame
framed-means : (w : World) (f : Frame) (name : List ℕ) (n states : ℕ) → FrameFits w f → IsName name → n < 2 ^ 64 → 2 ≤ states → states ≤ 256 → CanBeWritten states w
    → pattern_of (framed_text f w name n states) ≡ Ok (record { plane = w; rule_name = name; generation = n })
framed-means w f name n states fits named small two fit can =
    let body : List ℕ = packed 70 (map (token_text states) (tokens f.left (f.top, f.left) (live w))) in
    let first : List ℕ = comment_line f.left f.top n in
    let second : List ℕ = header_line f.width f.height name in
    ap pattern_of (regrouped (codes "#CXRLE ") (codes "Pos=") (signed_decimal f.left) (codes ",") (signed_decimal f.top) (codes " ") (codes "Gen=") (decimal n) (codes "\n")
    (codes "x = ") (decimal f.width) (codes " y = ") (decimal f.height) (codes " rule = ") name body)
    ∙ rw (head-reads f.left f.top n f.width f.height name body fits.left fits.top small fits.width fits.height named)
    (rw (body-left first second body) (rw (body-reads w f n states fits can two (two_lines first second) fit) refl))

-- what is written means the same
pub written_means : WrittenMeansTheSame
written_means = λ w name generation states named small two fit can.
    framed-means w (frame_of (box_of (live w))) name generation states (frame-fits w can.inside) named small two fit can
