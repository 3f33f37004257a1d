-- Cells laid on squares.
use Rattle.plane_core.proofs.Names.{AddsTouching, All, All-append, All-cons, All-head, All-nil, All-tail, AreLaidStates, AreQuadrants, AreRows, AreStatesOf, AreThoseIn, Bool, Bor, CanBeDrawn, Covers, IsAdded, IsIn, IsLaid, IsMade, IsNamed}
use Rattle.plane_core.proofs.Names.{IsNumber, IsPart, IsQuadrant, IsRoot, IsTrue, Keeps, LiesIn, List, Part, Place, Shows, Span, Square, SquareRow, Touches, World, [], ap, append-nil, append_assoc, ap₂, arith, both_ways, cell, cell-lay}
use Rattle.plane_core.proofs.Names.{cell-put, cell_in, cell_of, cells_of_span, cells_of_spans, cond, cond-false, cond_both, drawn, east, edge_of, false, false_from_ne_true, flat_map-append, get_or, inl, inr, ints, is_same, last_mention}
use Rattle.plane_core.proofs.Names.{lay, lay-append, lay-push, length, map, map-range_with_len_more, pos, quadrant_of, range_with_len, refl, renumbered, root_level, same_is, same_place, same_world, south, spans_of_runs, square_in}
use Rattle.plane_core.proofs.Names.{square_of, subst, subst₂, suc, sym, take, take_more, world_of_rows, zero, ℕ, ℤ, ◌++◌, ◌+ℤ◌, ◌+◌, ◌-◌, ◌<ℤ◌, ◌<◌, ◌^◌, ◌↔◌, ◌∙◌, ◌∷◌, ◌≡◌, ◌≤ℤ◌, ◌≤◌, ◌⊎◌}
use Rattle.worlds.specs.declared.cell.CellSet.{CellSet}
use Rattle.plane_core.specs.declared.part.Spot.{Spot}
use Rattle.plane_core.specs.Spans.{Holds}
use Rattle.plane_core.proofs.Shared.Sound.{IsNumber-from, zero-IsNumber}
use Rattle.plane_core.proofs.Shared.Cells.{in_or_out, offsets}
use Rattle.plane_core.proofs.Shared.Roots.{world-outside, root-cells, root-side}
use Rattle.plane_core.proofs.Shared.Adding.{Keeps-none, Keeps-then, quadrants-none, quadrants-row, root_added}
use Rattle.plane_core.proofs.Parts.{moved, in_quadrant, east-le, south-le, quadrant-cell, quadrant-split, root-outside, shows-one, state-cell}

-- nor the other way round
pub outer_place : (n : ℕ) (l t x y x' y' : ℤ) → (IsIn n l t x y → ⊥) → IsIn n l t x' y' → same_place (y, x) (y', x') ≡ false
outer_place n l t x y x' y' out here = grind (arith, ints, false_from_ne_true, same_is)

-- one more cell is laid
more : (cs : List CellSet) (c : CellSet) (w : World) (x y : ℤ) → cell (lay (cs ++ c ∷ []) w) x y ≡ cond (same_place (y, x) (c.y, c.x)) c.state (cell (lay cs w) x y)
more cs c w x y = ap (λ v. cell v x y) (lay-push cs c w) ∙ cell-put (lay cs w) c.x c.y c.state x y

-- the cells of a span, as many as are drawn
abbrev first_cells : Span → ℕ → List CellSet
first_cells s n = map (cell_of s) (range_with_len 0 n)

drawn-more : (s : Span) (n : ℕ) (w : World) (x y : ℤ) → cell (lay (first_cells s (n + 1)) w) x y ≡ cond (same_place (y, x) (s.y, s.x +ℤ pos n)) s.state (cell (lay (first_cells s n) w) x y)
drawn-more s n w x y =
    ap (λ (cs : List CellSet). cell (lay cs w) x y) (map-range_with_len_more (cell_of s) 0 n n (omega arith))
    ∙ more (first_cells s n) (cell_of s n) w x y

before-last : (x a : ℤ) (n : ℕ) → x <ℤ (a +ℤ pos (n + 1)) → (x ≡ a +ℤ pos n → ⊥) → x <ℤ (a +ℤ pos n)
before-last x a n below other = grind (arith, ints)

first-inside : (s : Span) (n : ℕ) (w : World) (x y : ℤ) → y ≡ s.y → s.x ≤ℤ x → x <ℤ (s.x +ℤ pos n) → cell (lay (first_cells s n) w) x y ≡ s.state
first-inside s zero w x y row left right = absurd (omega (arith, ints))
first-inside s (suc n) w x y row left right =
    let one : suc n ≡ n + 1 = omega arith in
    ap (λ k. cell (lay (first_cells s k) w) x y) one
    ∙ drawn-more s n w x y
    ∙ cond_both (same_place (y, x) (s.y, s.x +ℤ pos n)) s.state (cell (lay (first_cells s n) w) x y) (λ v. v ≡ s.state) (λ e. refl)
    (λ e. first-inside s n w x y row left (before-last x s.x n (omega (arith, ints)) (λ last. both_ways _ e (is_same (y, x) (s.y, s.x +ℤ pos n) row last))))

first-outside : (s : Span) (n : ℕ) (w : World) (x y : ℤ) → (y ≡ s.y → s.x ≤ℤ x → x <ℤ (s.x +ℤ pos n) → ⊥) → cell (lay (first_cells s n) w) x y ≡ cell w x y
first-outside s zero w x y out = refl
first-outside s (suc n) w x y out =
    let one : suc n ≡ n + 1 = omega arith in
    let apart = false_from_ne_true (same_place (y, x) (s.y, s.x +ℤ pos n)) (λ e.
    let at = same_is (y, x) (s.y, s.x +ℤ pos n) e in
    let column : x ≡ s.x +ℤ pos n = ap (λ (p : Place). p.1) at in
    out (ap (λ (p : Place). p.0) at) (omega (arith, ints)) (omega (arith, ints))) in
    ap (λ k. cell (lay (first_cells s k) w) x y) one
    ∙ drawn-more s n w x y
    ∙ cond-false _ _ _ apart
    ∙ first-outside s n w x y (λ row left right. out row left (omega (arith, ints)))

-- what a span does to its cells, and to others
pub span-inside : (s : Span) (w : World) (x y : ℤ) → Holds s x y → cell (lay (cells_of_span s) w) x y ≡ s.state
span-inside s w x y h = first-inside s s.count w x y h.row h.left h.right

pub span-outside : (s : Span) (w : World) (x y : ℤ) → (Holds s x y → ⊥) → cell (lay (cells_of_span s) w) x y ≡ cell w x y
span-outside s w x y out = first-outside s s.count w x y (λ row left right. out (record { row = row; left = left; right = right }))

-- spans drawn one list after another
pub drawn-append : (a b : List Span) (w : World) → drawn (a ++ b) w ≡ drawn b (drawn a w)
drawn-append a b w = ap (λ (cs : List CellSet). lay cs w) (flat_map-append cells_of_span a b) ∙ lay-append (cells_of_spans a) (cells_of_spans b) w

-- a cell is the same after them where it was the same before
drawn-same : (a : List Span) (v w : World) (x y : ℤ) → cell v x y ≡ cell w x y → cell (drawn a v) x y ≡ cell (drawn a w) x y
drawn-same a v w x y same = cell-lay (cells_of_spans a) v x y ∙ ap (last_mention (cells_of_spans a) x y) same ∙ sym (cell-lay (cells_of_spans a) w x y)

-- spans that don't hold a cell leave it
pub drawn-outside : (a : List Span) (w : World) (x y : ℤ) → All (λ s. Holds s x y → ⊥) a → cell (drawn a w) x y ≡ cell w x y
drawn-outside [] w x y out = refl
drawn-outside (s ∷ a) w x y out =
    ap (λ (v : World). cell v x y) (lay-append (cells_of_span s) (cells_of_spans a) w)
    ∙ drawn-outside a (lay (cells_of_span s) w) x y (All-tail (λ s. Holds s x y → ⊥) s a out)
    ∙ span-outside s w x y (All-head (λ s. Holds s x y → ⊥) s a out)

-- what touches no square holds none of its cells
apart : (p : Part) (s : Span) (x y : ℤ) → (Touches p s → ⊥) → Covers p x y → Holds s x y → ⊥
apart p s x y far covers holds = far (record { top = omega (arith, ints); bottom = omega (arith, ints); left = omega (arith, ints); right = omega (arith, ints) })

-- spans that are kept
pub those-kept : (p : Part) (ss here run : List Span) → All CanBeDrawn run → AreThoseIn p ss here → AreThoseIn p (ss ++ run) (here ++ run)
those-kept p ss here run range those = record {
  range = All-append CanBeDrawn here run those.range range;
  same = λ w x y covers.
      ap (λ (v : World). cell v x y) (drawn-append here run w)
      ∙ drawn-same run (drawn here w) (drawn ss w) x y (those.same w x y covers)
      ∙ ap (λ (v : World). cell v x y) (sym (drawn-append ss run w));
}

-- spans that don't touch the square
pub those-passed : (p : Part) (ss here run : List Span) → All (λ s. Touches p s → ⊥) run → AreThoseIn p ss here → AreThoseIn p (ss ++ run) here
those-passed p ss here run far those = record {
  range = those.range;
  same = λ w x y covers.
      those.same w x y covers
      ∙ sym (drawn-outside run (drawn ss w) x y (λ i d below. apart p (get_or run i d) x y (far i d below) covers))
      ∙ ap (λ (v : World). cell v x y) (sym (drawn-append ss run w));
}

-- runs, one more of which
pub runs-more : (runs : List (Bor (List Span))) (i : ℕ) (d : Bor (List Span)) → i < length runs → spans_of_runs (take (i + 1) runs) ≡ spans_of_runs (take i runs) ++ (get_or runs i d).now
runs-more runs i d below = rw (take_more runs i d below, flat_map-append, append-nil) refl

pub runs-push : (runs : List (Bor (List Span))) (run : Bor (List Span)) → spans_of_runs (runs ++ run ∷ []) ≡ spans_of_runs runs ++ run.now
runs-push runs run = rw (flat_map-append, append-nil) refl

-- a run that is added
pub adds-kept : (p : Part) (done : List Span) (run : Bor (List Span)) (old mid new : List (Bor (List Span))) → All CanBeDrawn run.now → new ≡ mid ++ run ∷ [] → AddsTouching p done old mid → AddsTouching p (done ++ run.now) old new
adds-kept p done run old mid new range is adds = λ before those.
    subst₂ (AreThoseIn p) (append_assoc before done run.now) (sym (ap spans_of_runs is ∙ runs-push mid run))
    (those-kept p (before ++ done) (spans_of_runs mid) run.now range (adds before those))

-- one that isn't
pub adds-passed : (p : Part) (done run : List Span) (old mid : List (Bor (List Span))) (is_near : Bool) → false ≡ is_near → All (λ s. IsTrue is_near ↔ Touches p s) run → AddsTouching p done old mid → AddsTouching p (done ++ run) old mid
adds-passed p done run old mid is_near not same adds = λ before those.
    subst (λ (ss : List Span). AreThoseIn p ss (spans_of_runs mid)) (append_assoc before done run)
    (those-passed p (before ++ done) (spans_of_runs mid) run (λ i d below near. both_ways is_near (sym not) ((same i d below).1 near)) (adds before those))

pub all-left : {X : Type 0} (P : X → Type 0) (a b : List X) → All P (a ++ b) → All P a
all-left P [] b all = All-nil P
all-left P (x ∷ a) b all = All-cons P x a (All-head P x (a ++ b) all) (all-left P a b (All-tail P x (a ++ b) all))

pub all-right : {X : Type 0} (P : X → Type 0) (a b : List X) → All P (a ++ b) → All P b
all-right P [] b all = all
all-right P (x ∷ a) b all = all-right P a b (All-tail P x (a ++ b) all)

-- what holds of all spans of runs holds of those of each
pub all-run : (P : Span → Type 0) (runs : List (Bor (List Span))) (i : ℕ) (d : Bor (List Span)) → i < length runs → All P (spans_of_runs runs) → All P (get_or runs i d).now
all-run P [] i d below all = let no : ⊥ = omega arith in absurd no
all-run P (r ∷ rs) zero d below all = all-left P r.now (spans_of_runs rs) all
all-run P (r ∷ rs) (suc i) d below all = all-run P rs i d (omega arith) (all-right P r.now (spans_of_runs rs) all)

-- spans are drawn on a square of level 1, and then others
pub laid-then : (p : Part) (a b : List Span) (old mid new : List ℕ) → AreLaidStates p a old mid → AreLaidStates p b mid new → AreLaidStates p (a ++ b) old new
laid-then p a b old mid new first second = record {
  small = second.small;
  each = λ w states. subst (λ (v : World). AreStatesOf v p new) (sym (drawn-append a b w)) (second.each (drawn a w) (first.each w states));
}

-- a cell's state after a span is drawn
pub record IsDrawnState (s : Span) (corner : Spot) (old new : ℕ) : Type 0 where
  pub inside : Holds s corner.x corner.y → new ≡ s.state
  pub outside : (Holds s corner.x corner.y → ⊥) → new ≡ old

-- the same by its place
pub drawn-at : (s : Span) (a b : Spot) (old new : ℕ) → a.x ≡ b.x → a.y ≡ b.y → (Holds s a.x a.y → new ≡ s.state) → ((Holds s a.x a.y → ⊥) → new ≡ old) → IsDrawnState s b old new
drawn-at s a b old new x y inside outside = record { inside = λ h. inside (subst₂ (Holds s) (sym x) (sym y) h); outside = λ out. outside (λ h. out (subst₂ (Holds s) x y h)) }

-- whether a span holds a cell
pub holds_or_not : (s : Span) (x y : ℤ) → Holds s x y ⊎ (Holds s x y → ⊥)
holds_or_not s x y = grind (arith, ints)

-- a span is drawn on a square of level 1
pub drawn-block : (p : Part) (s : Span) (old new : List ℕ) → CanBeDrawn s → ((q : ℕ) → q < 4 → get_or old q 0 < 256)
    → ((q : ℕ) → q < 4 → IsDrawnState s (quadrant_of p q 0).corner (get_or old q 0) (get_or new q 0)) → AreLaidStates p (s ∷ []) old new
drawn-block p s old new range small each = record {
  small = λ q few. elim (holds_or_not s (quadrant_of p q 0).corner.x (quadrant_of p q 0).corner.y) [
    | inl holds ↦ omega (arith, (each q few).inside holds, range.state)
    | inr out ↦ omega (arith, (each q few).outside out, small q few)
  ];
  each = λ w states q few.
      let corner = (quadrant_of p q 0).corner in
      ap (λ (cs : List CellSet). cell (lay cs w) corner.x corner.y) (append-nil (cells_of_span s))
      ∙ elim (holds_or_not s corner.x corner.y) [
        | inl holds ↦ span-inside s w corner.x corner.y holds ∙ sym ((each q few).inside holds)
        | inr out ↦ span-outside s w corner.x corner.y out ∙ states q few ∙ sym ((each q few).outside out)
      ];
}

-- what was shown stays shown
shows-kept : (w : World) (old new : List SquareRow) (p : Part) → Keeps old new → IsNumber old p.level p.number → Shows w old p → Shows w new p
shows-kept w old new p keeps number shows = record { cells = λ i j hi hj. shows.cells i j hi hj ∙ ap (λ (s : Square). cell_in p.level s i j) (sym (keeps.square p.level p.number number)) }

shows-same : (v w : World) (rows : List SquareRow) (p : Part) → ((x y : ℤ) → Covers p x y → cell v x y ≡ cell w x y) → Shows v rows p → Shows w rows p
shows-same v w rows p same shows = grind (arith, ints)

-- the square of four quadrants shows what they show
shows-four : (w : World) (rows new : List SquareRow) (p : Part) (kids : List ℕ) (n : ℕ) → 1 ≤ p.level → ((q : ℕ) → q < 4 → Shows w rows (quadrant_of p q (get_or kids q 0)))
    → square_in new p.level n ≡ square_of rows (p.level - 1) kids → Shows w new (renumbered p n)
shows-four w rows new p kids n some shows square = record {
  cells = λ i j hi hj.
      let k = p.level - 1 in
      let up : suc k ≡ p.level = omega arith in
      let side = root-side p.level some in
      let s = quadrant-split (2 ^ k) i j (omega arith) (omega arith) in
      let ex = s.at_x in let ey = s.at_y in
      ap₂ (cell w) (omega (arith, ints)) (omega (arith, ints))
      ∙ (shows s.q s.few).cells s.i s.j s.hi s.hj
      ∙ sym (quadrant-cell k s.q s.i s.j (λ q. square_in rows k (get_or kids q 0)) s.few s.hi s.hj)
      ∙ ap₂ (cell_in (suc k) (square_of rows k kids)) (sym ex) (sym ey)
      ∙ ap (λ m. cell_in m (square_of rows k kids) i j) up
      ∙ ap (λ (s : Square). cell_in p.level s i j) (sym square);
}

-- a quadrant that is found and the one that is meant
same_part : (q n : ℕ) (p r : Part) → IsQuadrant q p r → renumbered r n ≡ quadrant_of p q n
same_part q n p r is = λ i. record { level = is.level i; number = n; corner = record { x = is.x i; y = is.y i } }

-- spans may be drawn on a quadrant
pub goes_on : (r : Part) (d rows : List SquareRow) (spans lent : List (Bor (List Span))) → d ≡ rows → lent ≡ spans → length rows < 2 ^ 32 → 1 ≤ r.level → IsPart d r → All CanBeDrawn (spans_of_runs spans)
    → (IsPart rows r × (1 ≤ r.level)) × ((length rows < 2 ^ 32) × All CanBeDrawn (spans_of_runs lent))
goes_on r d rows spans lent same held few low is range =
    ((subst (λ (rs : List SquareRow). IsPart rs r) same is, low), (few, subst (λ (ss : List (Bor (List Span))). All CanBeDrawn (spans_of_runs ss)) (sym held) range))

-- the spans are drawn on one quadrant while others were made or will be
pub laid-quadrant : (rows r1 r2 r4 : List SquareRow) (q n : ℕ) (p r : Part) (spans own : List Span) → 1 ≤ p.level → q < 4 → IsPart rows p → IsQuadrant q p r → {d : List SquareRow} → d ≡ r1 → ((w : World) → Shows w d p → Shows w d r)
    → Keeps rows r1 → IsLaid r1 r2 r n own → AreThoseIn p spans own → Keeps r2 r4 → (w : World) → Shows w rows p → Shows (drawn spans w) r4 (quadrant_of p q n)
laid-quadrant rows r1 r2 r4 q n p r spans own some few is quadrant same down before laid those after w shows =
    let down_one = subst (λ (d : List SquareRow). (w : World) → Shows w d p → Shows w d r) same down in
    subst (Shows (drawn spans w) r4) (same_part q n p r quadrant)
    (shows-kept (drawn spans w) r2 r4 (renumbered r n) after laid.number
    (shows-same (drawn own w) (drawn spans w) r2 (renumbered r n)
    (λ x y h. those.same w x y (in_quadrant q p r some few quadrant x y h).0)
    (laid.shows w (down_one w (shows-kept w rows r1 p before is.number shows)))))

pub laid-four : (rows r4 r5 : List SquareRow) (p : Part) (kids : List ℕ) (n : ℕ) (spans : List Span) → 1 ≤ p.level → Keeps rows r4
    → ((q : ℕ) → q < 4 → (w : World) → Shows w rows p → Shows (drawn spans w) r4 (quadrant_of p q (get_or kids q 0))) → IsMade r4 r5 p.level n (square_of r4 (p.level - 1) kids) → IsLaid rows r5 p n spans
laid-four rows r4 r5 p kids n spans some keeps shows made = grind (arith, Keeps-then, shows-four)

-- where no span touches the square it stays
pub laid-none : (rows : List SquareRow) (p : Part) (spans : List Span) → IsPart rows p → length rows < 2 ^ 32 → AreThoseIn p spans [] → IsLaid rows rows p p.number spans
laid-none rows p spans is few those = record {
  keeps = Keeps-none rows is.valid few;
  number = is.number;
  shows = λ w shows. shows-same w (drawn spans w) rows p (λ x y h. those.same w x y h) shows;
}

-- a state of a square of level 1
block-state : (rows : List SquareRow) (p : Part) (kids : List ℕ) (r : ℕ) → p.level ≡ 1 → AreQuadrants rows 0 p.number kids → r < 4
    → cell_in p.level (square_in rows p.level p.number) (east (2 ^ (p.level - 1)) r + 0) (south (2 ^ (p.level - 1)) r + 0) ≡ get_or kids r 0
block-state rows p kids r one parts few =
    subst (λ k. cell_in k (square_in rows k p.number) (east (2 ^ (k - 1)) r + 0) (south (2 ^ (k - 1)) r + 0) ≡ get_or kids r 0) (sym one)
    (ap (λ (s : Square). cell_in 1 s (east 1 r + 0) (south 1 r + 0)) parts.square
    ∙ quadrant-cell 0 r 0 0 (λ q. square_in rows 0 (get_or kids q 0)) few (omega arith) (omega arith)
    ∙ state-cell rows 0 (get_or kids r 0) 0 0 refl)

-- on a square of level 1
pub laid-block : (rows new : List SquareRow) (p : Part) (kids states : List ℕ) (n : ℕ) (spans : List Span) → IsPart rows p → p.level ≡ 1 → length rows < 2 ^ 32 → AreQuadrants rows 0 p.number kids
    → AreLaidStates p spans kids states → IsMade rows new 1 n (square_of rows 0 states) → IsLaid rows new p n spans
laid-block rows new p kids states n spans is one few parts laid made =
    let ground_level : p.level - 1 ≡ 0 = ap (λ k. k - 1) one in
    let unit : 2 ^ (p.level - 1) ≡ 1 = ap (λ k. 2 ^ k) ground_level in
    let side = root-side p.level (omega arith) in
    laid-four rows rows new p states n spans (omega arith) (Keeps-none rows is.valid few) (λ q hq w shows.
    shows-one (drawn spans w) rows (quadrant_of p q (get_or states q 0)) ground_level
    (laid.each w (λ r hr.
    let a = east-le (2 ^ (p.level - 1)) r in let b = south-le (2 ^ (p.level - 1)) r in
    ap₂ (cell w) (omega (arith, ints)) (omega (arith, ints))
    ∙ shows.cells (east (2 ^ (p.level - 1)) r + 0) (south (2 ^ (p.level - 1)) r + 0) (omega arith) (omega arith)
    ∙ block-state rows p kids r one parts hr) q hq))
    (subst (λ k. IsMade rows new k n (square_of rows (k - 1) states)) (sym one) made)

-- the row of an empty square
pub made-empty : (rows : List SquareRow) (k : ℕ) (kids : List ℕ) → AreRows rows → length rows < 2 ^ 32 → 1 ≤ k → kids ≡ 0 ∷ 0 ∷ 0 ∷ 0 ∷ [] → IsMade rows rows k 0 (square_of rows (k - 1) kids)
made-empty rows k kids valid few low empty =
    let up : suc (k - 1) ≡ k = omega arith in
    record {
      keeps = Keeps-none rows valid few;
      number = zero-IsNumber rows k;
      square = ap (λ j. square_in rows j 0) (sym up) ∙ (quadrants-none rows (k - 1)).square ∙ ap (square_of rows (k - 1)) (sym empty);
    }

-- a row that is there
pub made-before : (rows : List SquareRow) (row : SquareRow) (n : ℕ) → AreRows rows → length rows < 2 ^ 32 → 1 ≤ row.level → IsNamed rows n row → IsMade rows rows row.level n (square_of rows (row.level - 1) row.kids)
made-before rows row n valid few low is =
    let up : suc (row.level - 1) ≡ row.level = omega arith in
    let number = subst (λ j. IsNumber rows j n) up (IsNumber-from rows (row.level - 1) n (λ some. (is.there, ap (λ (r : SquareRow). r.level) is.same ∙ sym up))) in
    record {
      keeps = Keeps-none rows valid few;
      number = number;
      square =
          ap (λ j. square_in rows j n) (sym up)
          ∙ (quadrants-row rows row.level n valid low is.some number).square
          ∙ ap (λ (r : SquareRow). square_of rows (row.level - 1) r.kids) is.same;
    }

-- the same square once more, as the root
pub laid-root : (rows mid new : List SquareRow) (p : Part) (n m : ℕ) (kids : List ℕ) (spans : List Span) → 1 ≤ p.level → IsLaid rows mid p n spans → AreQuadrants mid (p.level - 1) n kids
    → IsAdded mid new p.level m (square_of mid (p.level - 1) kids) → IsLaid rows new p m spans
laid-root rows mid new p n m kids spans some laid parts added =
    let up : suc (p.level - 1) ≡ p.level = omega arith in
    let same : square_in new p.level m ≡ square_in mid p.level n = added.square ∙ sym parts.square ∙ ap (λ j. square_in mid j n) up in
    record {
      keeps = Keeps-then rows mid new laid.keeps added.keeps;
      number = added.number;
      shows = λ w shows. record { cells = λ i j hi hj. (laid.shows w shows).cells i j hi hj ∙ ap (λ (s : Square). cell_in p.level s i j) (sym same) };
    }

-- the level of a root that is added
pub added-level : (mid new : List SquareRow) (k n : ℕ) (s : Square) → 1 ≤ k → IsAdded mid new k n s → root_level new ≡ k
added-level mid new k n s some added =
    let up : suc (k - 1) ≡ k = omega arith in
    (root_added mid new (k - 1) n s (subst (λ j. IsAdded mid new j n s) (sym up) added)).0 ∙ up

-- a cell outside the square isn't one of a span inside
pub out_of_reach : (p : Part) (s : Span) (x y : ℤ) → LiesIn p s → (Covers p x y → ⊥) → Holds s x y → ⊥
out_of_reach p s x y lies out holds = out (record { left = omega (arith, ints); right = omega (arith, ints); top = omega (arith, ints); bottom = omega (arith, ints) })

-- the world after spans that the root holds are drawn on it
pub laid-world : (rows new : List SquareRow) (p : Part) (n : ℕ) (spans : List Span) → IsRoot rows p → All (LiesIn p) spans → IsLaid rows new p n spans → root_level new ≡ p.level → n ≡ length new
    → world_of_rows new ≡ drawn spans (world_of_rows rows)
laid-world rows new p n spans root lies laid level last =
    let w = world_of_rows rows in
    let edge = λ (e : ℤ) (is : e ≡ edge_of (root_level rows)). let at : e ≡ edge_of p.level = is ∙ ap edge_of (sym root.level) in at in
    same_world _ _ (λ x y. elim (in_or_out (2 ^ p.level) p.corner.x p.corner.y x y) [
      | inl h ↦
          let at = offsets (2 ^ p.level) p.corner.x p.corner.y x y h in
          ap₂ (cell (world_of_rows new)) (at.ex ∙ ap (λ e. e +ℤ pos at.i) (edge _ root.x)) (at.ey ∙ ap (λ e. e +ℤ pos at.j) (edge _ root.y))
          ∙ sym (root-cells new p.level at.i at.j laid.keeps.valid level at.hi at.hj)
          ∙ ap (λ m. cell_in p.level (square_in new p.level m) at.i at.j) (sym last)
          ∙ sym ((laid.shows w root.shows).cells at.i at.j at.hi at.hj)
          ∙ ap₂ (cell (drawn spans w)) (sym at.ex) (sym at.ey)
      | inr out ↦
          let apart = drawn-outside spans w x y (λ i d below. out_of_reach p (get_or spans i d) x y (lies i d below) out) in
          grind (arith, world-outside, moved, root-outside)
    ])
