-- The rows that a walk gives have the walked square as their root.
use Rattle.plane_core.proofs.Names.{AreKept, AreRows, AreWalked, Bool, IfOk, IsLeastLevel, List, Numbered, Result, Square, SquareRow, [], ap, arith, blank, cases_lt, cell-blank, edge_of, empty_square, false, four, get_or}
use Rattle.plane_core.proofs.Names.{get_or_append_left, get_or_push, inl, inr, length, length_push, list_any, no_row, numbered, one, position_or_len, put_square, refl, root_level, root_of, same_row, square_in, subst, suc, sym, true}
use Rattle.plane_core.proofs.Names.{world_of_rows, zero, ℕ, ◌+◌, ◌-◌, ◌<◌, ◌∙◌, ◌≡◌, ◌≤◌, ◌⊎◌}
use Rattle.worlds.specs.Square.{IsSquare}
use Rattle.plane_core.specs.Rows.{number_row, number_square}
use Rattle.plane_core.proofs.Shared.Numbering.{Has-empty, not_found}
use Rattle.plane_core.proofs.Shared.Sound.{IsSound, EachHas-none, AreRows-none, number_square-sound, IsNumber-level, square_in-none, found_within, found_at, row_of}
use Rattle.plane_core.proofs.Shared.Cells.{put_square-clear}
use Rattle.plane_core.proofs.Shared.Roots.{rooted, root-IsSquare, root_level-some, world-root, world-none, kept-none}

-- no level is above m
abbrev pub LevelsUpTo : ℕ → List SquareRow → Type 0
LevelsUpTo m rows = (i : ℕ) → i < length rows → (get_or rows i no_row).level ≤ m

numbered-levels : (b c : Bool) (row : SquareRow) (rows : List SquareRow) (n m : ℕ) → row.level ≤ m → LevelsUpTo m rows → LevelsUpTo m (numbered b c row rows n).rows
numbered-levels b c row rows n m low up =
    grind (arith, cases_lt, get_or_append_left, get_or_push, length_push)

pub number_square-levels : (k : ℕ) (t : Square) (rows : List SquareRow) (m : ℕ) → k ≤ m → LevelsUpTo m rows → LevelsUpTo m (number_square k t rows).rows
unfolding number_square number_row
number_square-levels k (one s) rows m low up = up
number_square-levels zero (four nw ne sw se) rows m low up = up
number_square-levels (suc k) (four nw ne sw se) rows m low up =
    let a = number_square k nw rows in
    let b = number_square k ne a.rows in
    let c = number_square k sw b.rows in
    let d = number_square k se c.rows in
    let less : k ≤ m = omega arith in
    let ua : LevelsUpTo m a.rows = number_square-levels k nw rows m less up in
    let ub : LevelsUpTo m b.rows = number_square-levels k ne a.rows m less ua in
    let uc : LevelsUpTo m c.rows = number_square-levels k sw b.rows m less ub in
    let ud : LevelsUpTo m d.rows = number_square-levels k se c.rows m less uc in
    numbered-levels _ _ (row_of (suc k) a.number b.number c.number d.number) d.rows _ m low ud

numbered-last : (b there : Bool) (rows : List SquareRow) (k x y z w : ℕ) → LevelsUpTo k rows → list_any (same_row (row_of (suc k) x y z w)) rows ≡ there
    → 0 < (numbered b there (row_of (suc k) x y z w) rows (position_or_len (same_row (row_of (suc k) x y z w)) rows + 1)).number
    → (numbered b there (row_of (suc k) x y z w) rows (position_or_len (same_row (row_of (suc k) x y z w)) rows + 1)).number
    ≡ length (numbered b there (row_of (suc k) x y z w) rows (position_or_len (same_row (row_of (suc k) x y z w)) rows + 1)).rows
numbered-last true there rows k x y z w up e live = absurd (omega (arith, live))
numbered-last false true rows k x y z w up e live =
    let row = row_of (suc k) x y z w in
    let within : position_or_len (same_row row) rows < length rows = found_within (same_row row) rows e in
    let level : (get_or rows (position_or_len (same_row row) rows) no_row).level ≡ suc k = ap (λ (r : SquareRow). r.level) (found_at row rows e) in
    absurd (omega arith)
numbered-last false false rows k x y z w up e live = grind (arith, not_found, length_push)

-- the row of a walked square is the last
number_square-last : (k : ℕ) (t : Square) → 0 < (number_square (suc k) t []).number → IsSquare (suc k) t → (number_square (suc k) t []).number ≡ length (number_square (suc k) t []).rows
unfolding number_square number_row IsSquare
number_square-last k (one s) live is = absurd is
number_square-last k (four nw ne sw se) live is =
    let a = number_square k nw [] in
    let b = number_square k ne a.rows in
    let c = number_square k sw b.rows in
    let d = number_square k se c.rows in
    let same : k ≤ k = omega arith in
    let ua : LevelsUpTo k a.rows = number_square-levels k nw [] k same (λ i h. absurd (omega (arith, h))) in
    let ub : LevelsUpTo k b.rows = number_square-levels k ne a.rows k same ua in
    let uc : LevelsUpTo k c.rows = number_square-levels k sw b.rows k same ub in
    let ud : LevelsUpTo k d.rows = number_square-levels k se c.rows k same uc in
    numbered-last _ _ d.rows k a.number b.number c.number d.number ud refl live

-- what a walk of the root gives: walked rows of the same world
pub record IsTidied (rows done : List SquareRow) : Type 0 where
  pub walked : AreWalked done
  pub world : world_of_rows done ≡ world_of_rows rows
  pub level : (root_level done ≡ root_level rows) ⊎ (done ≡ [])

walked-none : AreWalked []
walked-none = record { valid = AreRows-none; each = EachHas-none.has; walked = kept-none.walked }

pub world-put : (rows : List SquareRow) (k : ℕ) (t : Square) → root_level rows ≡ k → square_in rows k (length rows) ≡ t → world_of_rows rows ≡ put_square k t (edge_of k) (edge_of k) blank
world-put rows k t ek et = world-root rows ∙ ap (λ m. put_square m (square_in rows m (length rows)) (edge_of m) (edge_of m) blank) ek ∙ ap (λ (s : Square). put_square k s (edge_of k) (edge_of k) blank) et

-- what a walk of a square of level k gives: walked rows of the world that it is the root of
pub record IsListed (k : ℕ) (t : Square) (done : List SquareRow) : Type 0 where
  pub walked : AreWalked done
  pub world : world_of_rows done ≡ put_square k t (edge_of k) (edge_of k) blank
  pub level : (root_level done ≡ k) ⊎ (done ≡ [])

-- an empty square adds nothing to the blank world
blank-put : (k : ℕ) → put_square k (empty_square k) (edge_of k) (edge_of k) blank ≡ blank
blank-put k = put_square-clear k (edge_of k) (edge_of k) blank (λ x y h. cell-blank x y)

pub listed : (k : ℕ) (t : Square) → IsSquare (suc k) t → suc k ≤ 62 → IsListed (suc k) t (number_square (suc k) t []).rows
listed k t is high =
    let r = number_square (suc k) t [] in
    let sound : IsSound (suc k) t r = number_square-sound (suc k) t [] AreRows-none EachHas-none is high in
    elim (cases_lt 0 r.number) [
      | inl live ↦ grind (arith, number_square-last, IsNumber-level, root_level-some, world-put)
      | inr none ↦
          let zero_is : r.number ≡ 0 = omega arith in
          let t_empty : t ≡ empty_square (suc k) = sym sound.square ∙ ap (square_in r.rows (suc k)) zero_is ∙ square_in-none r.rows (suc k) in
          let nothing : r.rows ≡ [] = ap (λ (s : Square). (number_square (suc k) s []).rows) t_empty ∙ ap (λ (q : Numbered). q.rows) (Has-empty (suc k) []) in
          let empty_put : put_square (suc k) t (edge_of (suc k)) (edge_of (suc k)) blank ≡ blank = ap (λ (s : Square). put_square (suc k) s (edge_of (suc k)) (edge_of (suc k)) blank) t_empty ∙ blank-put (suc k) in
          subst (IsListed (suc k) t) (sym nothing) (record { walked = walked-none; world = world-none ∙ sym empty_put; level = inr refl })
    ]

tidied_by : (rows : List SquareRow) (k : ℕ) → AreRows rows → root_level rows ≡ suc k → IsTidied rows (number_square (suc k) (square_in rows (suc k) (length rows)) []).rows
tidied_by rows k valid ek =
    let t = square_in rows (suc k) (length rows) in
    let is : IsSquare (suc k) t = subst (λ m. IsSquare m (square_in rows m (length rows))) ek (root-IsSquare rows valid) in
    grind (arith, rooted, listed, world-put)

pub tidied : (rows done : List SquareRow) → AreRows rows → (number_square (root_level rows) (root_of rows) []).rows ≡ done → IsTidied rows done
tidied rows done valid e =
    let root = rooted rows valid in
    let k = root_level rows - 1 in
    let is : root_level rows ≡ suc k = omega arith in
    subst (IsTidied rows) (subst (λ m. (number_square m (square_in rows m (length rows)) []).rows ≡ done) is e) (tidied_by rows k valid is)

-- walked from the least root, rows may be kept
pub kept-walked : (rows done : List SquareRow) → IsTidied rows done → IsLeastLevel (root_level rows) (world_of_rows rows) → AreKept done
kept-walked rows done t least = grind (arith, kept-none)

-- what follows from what a clause says of the value in an `Ok`
pub IfOk_then : {A E : Type 0} (r : Result A E) {P Q : A → Type 0} → IfOk r P → ((x : A) → P x → Q x) → IfOk r Q
IfOk_then r h f = grind (arith)
