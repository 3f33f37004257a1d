-- The world whose squares are woven from the strips of spans.
use Rattle.plane_core.proofs.Names.{All, All-nil, AreBefore, AreExtended, AreMade, AreRowsOf, AreStripsOf, AreWoven, CanBeDrawn, Covers, HasSquare, IfSome, IsAdded, IsBefore, IsOnward, IsRoot, IsStripOf, LiesIn, List, None, Option, Part}
use Rattle.plane_core.proofs.Names.{Some, Span, Square, SquareRow, Strip, World, [], ap, append-nil, ap₂, arith, blank, cell, cell-blank, cell_at, cell_in, cells_of_span, drawn, edge_of, four, get_or, inl, inr, ints, lay, length, lit<}
use Rattle.plane_core.proofs.Names.{neg_ℤ, number_at, one, pos, pow-suc, refl, root_level, root_of, same_world, square_at, square_in, square_of, subst, suc, sym, zero, ℕ, ◌*◌, ◌++◌, ◌+ℤ◌, ◌+◌, ◌-◌, ◌<◌, ◌^◌, ◌∙◌, ◌∷◌, ◌≡◌, ◌≤◌}
use Rattle.std.proofs.lemmas.Nat.{pow_pos}
use Rattle.plane_core.specs.Spans.{Holds}
use Rattle.plane_core.specs.Woven.{kids_at, start}
use Rattle.plane_core.proofs.Laying.{drawn-append, drawn-outside, holds_or_not, out_of_reach, span-inside, span-outside}
use Rattle.plane_core.proofs.Shared.Adding.{root_added}
use Rattle.plane_core.proofs.Shared.Cells.{double, in_or_out, offsets, square_at-cells, square_at-suc, square_at-zero}
use Rattle.plane_core.proofs.Parts.{moved}
use Rattle.plane_core.proofs.Shared.Roots.{world-inside, world-outside}
use Rattle.plane_core.proofs.Shared.Sound.{AreRows-none, IsNumber-state, square_in-state}
use Rattle.plane_core.proofs.Strips.{all-onward, number-none}

-- where columns start
pub start-zero : (x : ℕ) → start 0 x ≡ x
unfolding start
start-zero x = refl

pub start-suc : (k x : ℕ) → start (suc k) x ≡ start k (2 * x)
unfolding start
start-suc k x = refl

pub start-next : (k x : ℕ) → start k (x + 1) ≡ start k x + 2 ^ k
start-next zero x = start-zero (x + 1) ∙ ap (λ n. n + 1) (sym (start-zero x))
start-next (suc k) x =
    let twice : 2 * (x + 1) ≡ (2 * x + 1) + 1 = omega arith in
    let a = start-next k (2 * x + 1) in let b = start-next k (2 * x) in let c = start-suc k x in let d = double k in
    start-suc k (x + 1) ∙ ap (start k) twice ∙ omega arith

pub start-power : (k j : ℕ) → start k (2 ^ j) ≡ 2 ^ (j + k)
start-power zero j = start-zero (2 ^ j) ∙ ap (λ n. 2 ^ n) (omega arith)
start-power (suc k) j =
    let twice : 2 * 2 ^ j ≡ 2 ^ suc j = omega (arith, pow-suc 2 j) in
    start-suc k (2 ^ j) ∙ ap (start k) twice ∙ start-power k (suc j) ∙ ap (λ n. 2 ^ n) (omega arith)

pub cell_at-next : (k x : ℕ) → cell_at k (x + 1) ≡ cell_at k x +ℤ pos (2 ^ k)
cell_at-next k x = let e = start-next k x in omega (arith, ints)

pub cell_at-suc : (k x : ℕ) → cell_at (suc k) x ≡ cell_at k (2 * x)
cell_at-suc k x = ap (λ n. neg_ℤ (pos (2 ^ 31)) +ℤ pos n) (start-suc k x)

-- the middle
pub cell_at-middle : (k : ℕ) → k ≤ 31 → cell_at k (2 ^ (31 - k)) ≡ pos 0
cell_at-middle k low =
    let e : start k (2 ^ (31 - k)) ≡ 2 ^ 31 = start-power k (31 - k) ∙ ap (λ n. 2 ^ n) (let s : (31 - k) + k ≡ 31 = omega arith in s) in
    omega (arith, ints)

pub cell_at-edge : (k m : ℕ) → k ≤ 31 → m + 1 ≡ 2 ^ (31 - k) → cell_at k m ≡ edge_of (suc k)
cell_at-edge k m low next =
    let e = cell_at-next k m in
    let f : cell_at k (m + 1) ≡ pos 0 = ap (cell_at k) next ∙ cell_at-middle k low in
    let less : suc k - 1 ≡ k = omega arith in
    let g : cell_at k m ≡ neg_ℤ (pos (2 ^ k)) = omega (arith, ints) in
    g ∙ ap (λ j. neg_ℤ (pos (2 ^ j))) (sym less)

-- four squares by their parts
pub four_same : (a b c d a' b' c' d' : Square) → a ≡ a' → b ≡ b' → c ≡ c' → d ≡ d' → four a b c d ≡ four a' b' c' d'
four_same a b c d a' b' c' d' p q r s = λ i. four (p i) (q i) (r i) (s i)

-- strips of one level more name the squares of that level
pub woven-more : (old new : List SquareRow) (k : ℕ) (strips made : List Strip) (w : World) → AreWoven old k strips w → AreMade old new (suc k) strips made → AreWoven new (suc k) made w
woven-more old new k strips made w are to = record {
  valid = to.keeps.valid;
  few = to.keeps.few;
  numbers = λ x y. (to.each x y).number;
  squares = λ x y.
      let less : suc k - 1 ≡ k = omega arith in
      let ex = cell_at-suc k x in let ey = cell_at-suc k y in
      let nx = cell_at-next k (2 * x) in let ny = cell_at-next k (2 * y) in
      (to.each x y).square
      ∙ ap (λ j. square_of old j (kids_at strips x y)) less
      ∙ four_same _ _ _ _ _ _ _ _ (are.squares (2 * x) (2 * y) ∙ ap₂ (square_at w k) (sym ex) (sym ey))
      (are.squares (2 * x + 1) (2 * y) ∙ ap₂ (square_at w k) (nx ∙ ap (λ z. z +ℤ pos (2 ^ k)) (sym ex)) (sym ey))
      (are.squares (2 * x) (2 * y + 1) ∙ ap₂ (square_at w k) (sym ex) (ny ∙ ap (λ z. z +ℤ pos (2 ^ k)) (sym ey)))
      (are.squares (2 * x + 1) (2 * y + 1) ∙ ap₂ (square_at w k) (nx ∙ ap (λ z. z +ℤ pos (2 ^ k)) (sym ex)) (ny ∙ ap (λ z. z +ℤ pos (2 ^ k)) (sym ey)))
      ∙ sym (square_at-suc w k (cell_at (suc k) x) (cell_at (suc k) y));
}

-- the strips of spans name their cells
pub woven-cells : (spans : List Span) (strips : List Strip) → AreStripsOf spans strips → AreWoven [] 0 strips (drawn spans blank)
woven-cells spans strips are = record {
  valid = AreRows-none;
  few = omega arith;
  numbers = λ x y. IsNumber-state [] (number_at strips x y) (are.small x y);
  squares = λ x y. square_in-state [] (number_at strips x y) ∙ ap (λ n. one n) (sym (are.cells x y)) ∙ sym (square_at-zero (drawn spans blank) (cell_at 0 x) (cell_at 0 y));
}

-- no strips yet
pub strips-none : AreStripsOf [] []
strips-none = record {
  small = λ x y. subst (λ n. n < 256) (sym (number-none x y)) (lit< tt);
  cells = λ x y. cell-blank (cell_at 0 x) (cell_at 0 y) ∙ sym (number-none x y);
}

-- the cells of one more span
drawn-last : (spans : List Span) (span : Span) (w : World) → drawn (spans ++ span ∷ []) w ≡ lay (cells_of_span span) (drawn spans w)
drawn-last spans span w = drawn-append spans (span ∷ []) w ∙ ap (λ cs. lay cs (drawn spans w)) (append-nil (cells_of_span span))

-- one more strip
module _ (spans : List Span) (span : Span) (old new : List Strip) (s : Strip) (x y : ℕ) (are : AreStripsOf spans old) (before : AreBefore old x y)
    (onward : IsOnward x y s.x s.y) (range : CanBeDrawn span) (is : IsStripOf span s) (ext : AreExtended old new s) where
  behind : AreBefore old s.x s.y
  behind = all-onward old x y s.x s.y before onward

  wide : s.x ≤ s.end
  wide = let a = is.x in let b = is.end in omega (arith, ints)

  -- a place of the strip holds a cell of the span
  strip-in : (i j : ℕ) → Holds span (cell_at 0 i) (cell_at 0 j) → (j ≡ s.y) × (s.x ≤ i) × (i < s.end)
  strip-in i j h =
      let a = is.x in let b = is.end in let c = is.y in let r = h.row in let l = h.left in let g = h.right in let zi = start-zero i in let zj = start-zero j in
      (omega (arith, ints), omega (arith, ints), omega (arith, ints))

  in-strip : (i j : ℕ) → j ≡ s.y → s.x ≤ i → i < s.end → Holds span (cell_at 0 i) (cell_at 0 j)
  in-strip i j row from to =
      let a = is.x in let b = is.end in let c = is.y in let zi = start-zero i in let zj = start-zero j in
      record { row = omega (arith, ints); left = omega (arith, ints); right = omega (arith, ints) }

  pub strips-more : AreStripsOf (spans ++ span ∷ []) new
  strips-more = record {
    small = λ i j. elim (holds_or_not span (cell_at 0 i) (cell_at 0 j)) [
      | inl h ↦ let at = strip-in i j h in let e : number_at new i j ≡ s.number = ap (number_at new i) at.0 ∙ ext.here behind i at.1 at.2 in omega (arith, e, is.number, range.state)
      | inr out ↦ let e = ext.others behind i j (λ row from to. out (in-strip i j row from to)) in omega (arith, e, are.small i j)
    ];
    cells = λ i j.
        ap (λ v. cell v (cell_at 0 i) (cell_at 0 j)) (drawn-last spans span blank)
        ∙ elim (holds_or_not span (cell_at 0 i) (cell_at 0 j)) [
          | inl h ↦ let at = strip-in i j h in
              span-inside span (drawn spans blank) (cell_at 0 i) (cell_at 0 j) h ∙ sym (ap (number_at new i) at.0 ∙ ext.here behind i at.1 at.2 ∙ is.number)
          | inr out ↦
              span-outside span (drawn spans blank) (cell_at 0 i) (cell_at 0 j) out ∙ are.cells i j ∙ sym (ext.others behind i j (λ row from to. out (in-strip i j row from to)))
        ];
  }

  pub before-more : AreBefore new s.end s.y
  before-more = ext.before behind wide

-- none are before any place
pub strips-start : (strips : List Strip) → strips ≡ [] → AreStripsOf [] strips × AreBefore strips 0 0
strips-start strips empty = subst (λ (ss : List Strip). AreStripsOf [] ss × AreBefore ss 0 0) (sym empty) (strips-none, All-nil (λ s. IsBefore s 0 0))

-- the number at the cell left of the middle, or above it
pub before-middle : (k m : ℕ) → m ≡ 2 ^ (31 - k) → (m - 1) + 1 ≡ 2 ^ (31 - k)
before-middle k m is = let low : 1 ≤ 2 ^ (31 - k) = pow_pos (31 - k) in omega arith

-- the four squares around the middle
module _ (rows : List SquareRow) (k : ℕ) (strips : List Strip) (w : World) (m : ℕ) (are : AreWoven rows k strips w) (low : k ≤ 31) (is : m ≡ 2 ^ (31 - k)) where
  at_edge : cell_at k (m - 1) ≡ edge_of (suc k)
  at_edge = cell_at-edge k (m - 1) low (before-middle k m is)

  at_middle : cell_at k m ≡ edge_of (suc k) +ℤ pos (2 ^ k)
  at_middle =
      let less : suc k - 1 ≡ k = omega arith in
      let e : edge_of (suc k) ≡ neg_ℤ (pos (2 ^ k)) = ap (λ j. neg_ℤ (pos (2 ^ j))) less in
      let f : cell_at k m ≡ pos 0 = ap (cell_at k) is ∙ cell_at-middle k low in
      f ∙ (let z : pos 0 ≡ neg_ℤ (pos (2 ^ k)) +ℤ pos (2 ^ k) = omega (arith, ints) in z) ∙ ap (λ z. z +ℤ pos (2 ^ k)) (sym e)

  root-square : square_of rows k (number_at strips (m - 1) (m - 1) ∷ number_at strips m (m - 1) ∷ number_at strips (m - 1) m ∷ number_at strips m m ∷ []) ≡ square_at w (suc k) (edge_of (suc k)) (edge_of (suc k))
  root-square =
      four_same _ _ _ _ _ _ _ _ (are.squares (m - 1) (m - 1) ∙ ap₂ (square_at w k) at_edge at_edge) (are.squares m (m - 1) ∙ ap₂ (square_at w k) at_middle at_edge)
      (are.squares (m - 1) m ∙ ap₂ (square_at w k) at_edge at_middle) (are.squares m m ∙ ap₂ (square_at w k) at_middle at_middle)
      ∙ sym (square_at-suc w k (edge_of (suc k)) (edge_of (suc k)))

  has-square : (new : List SquareRow) (n : ℕ) (kids : List ℕ) → kids ≡ number_at strips (m - 1) (m - 1) ∷ number_at strips m (m - 1) ∷ number_at strips (m - 1) m ∷ number_at strips m m ∷ []
      → IsAdded rows new (suc k) n (square_of rows (suc k - 1) kids) → HasSquare new (suc k) w
  has-square new n kids same added =
      let less : suc k - 1 ≡ k = omega arith in
      let root = root_added rows new k n (square_of rows (suc k - 1) kids) added in
      record {
        valid = added.keeps.valid;
        few = added.keeps.few;
        level = root.0;
        square = root.1 ∙ ap (λ j. square_of rows j kids) less ∙ ap (square_of rows k) same ∙ root-square;
      }

-- the root that is added around the middle
pub root-added : (rows : List SquareRow) (k : ℕ) (strips : List Strip) (w : World) (m : ℕ) → AreWoven rows k strips w → k ≤ 31 → m ≡ 2 ^ (31 - k) → (new : List SquareRow) (n : ℕ) (kids : List ℕ)
    → kids ≡ number_at strips (m - 1) (m - 1) ∷ number_at strips m (m - 1) ∷ number_at strips (m - 1) m ∷ number_at strips m m ∷ []
    → IsAdded rows new (k + 1) n (square_of rows ((k + 1) - 1) kids) → HasSquare new (k + 1) w
root-added rows k strips w m are low is new n kids same added =
    let next : k + 1 ≡ suc k = omega arith in
    subst (λ j. HasSquare new j w) (sym next) (has-square rows k strips w m are low is new n kids same (subst (λ j. IsAdded rows new j n (square_of rows (j - 1) kids)) next added))

-- rows with the square of the world around (0, 0), which holds all spans, stand for it
pub rows-of : (rows : List SquareRow) (k : ℕ) (spans : List Span) (p : Part) → HasSquare rows k (drawn spans blank) → IsRoot rows p → All (LiesIn p) spans → AreRowsOf spans rows
rows-of rows k spans p has root lies =
    let w = drawn spans blank in
    let r = root_level rows in
    let square : root_of rows ≡ square_at w r (edge_of r) (edge_of r) = subst (λ j. square_in rows j (length rows) ≡ square_at w j (edge_of j) (edge_of j)) (sym has.level) has.square in
    record {
      valid = has.valid;
      few = has.few;
      world = same_world _ _ (λ x y. elim (in_or_out (2 ^ r) (edge_of r) (edge_of r) x y) [
        | inl h ↦
            let at = offsets (2 ^ r) (edge_of r) (edge_of r) x y h in
            world-inside rows x y at.i at.j has.valid at.ex at.ey at.hi at.hj
            ∙ ap (λ (t : Square). cell_in r t at.i at.j) square
            ∙ square_at-cells w r (edge_of r) (edge_of r) at.i at.j at.hi at.hj
            ∙ ap₂ (cell w) (sym at.ex) (sym at.ey)
        | inr out ↦
            let away : Covers p x y → ⊥ = λ c. out (moved (2 ^ p.level) (2 ^ r) p.corner.x (edge_of r) p.corner.y (edge_of r) x y (ap (λ j. 2 ^ j) root.level) root.x root.y c) in
            world-outside rows x y has.valid out
            ∙ sym (drawn-outside spans blank x y (λ i d below. out_of_reach p (get_or spans i d) x y (lies i d below) away) ∙ cell-blank x y)
      ]);
    }

-- the same of strips that are lent
pub woven-next : (old new : List SquareRow) (k : ℕ) (strips lent made : List Strip) (w : World) → AreWoven old k strips w → lent ≡ strips → AreMade old new (k + 1) lent made → AreWoven new (k + 1) made w
woven-next old new k strips lent made w are same to =
    let next : k + 1 ≡ suc k = omega arith in
    subst (λ j. AreWoven new j made w) (sym next) (woven-more old new k strips made w are (subst (λ (ss : List Strip). AreMade old new (suc k) ss made) same (subst (λ j. AreMade old new j lent made) next to)))

-- what is said of an option's value is said of the value that it has
pub some_of : {X : Type 0} (o : Option X) (P : X → Type 0) (x : X) → IfSome o P → o ≡ Some x → P x
some_of None P x h e = cc
some_of (Some y) P x h e = grind (arith)
