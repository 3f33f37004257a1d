-- A square with empty ones round it, join by join.
use Rattle.step_engine.proofs.Names.{Adds-joined, AddsPadded, AddsRound, All-cons, All-nil, AreNumbers-quadrants, Contains, Grows, Grows-then, GrowsBy, GrowsFrom, IsCentred, IsNumber-grows, IsNumber-joined, IsPaddedNumber, IsSquareOf}
use Rattle.step_engine.proofs.Names.{Keeps-grows, List, StandsFor, Table, Tells, World, [], arith, cells_of, empty_square, four, get_or, kids_at, level_of, number_of, padded, square_in, square_in-grows, square_in-joined}
use Rattle.step_engine.proofs.Names.{square_in-quadrants, square_of, subst, suc, sym, ℕ, ◌+◌, ◌-◌, ◌∙◌, ◌∷◌, ◌≡◌, ◌≤◌}
use Rattle.worlds.specs.Square as squares
use Rattle.square_table.specs.declared.square.Square.{Square}
use Rattle.square_table.specs.Squares.{IsHeld}
use Rattle.square_table.specs.Made.{HoldsWithin}
use Rattle.step_engine.proofs.Centring.{IsCentred-padded}

-- what a number stands for it stands for where the table grows
pub StandsFor-grows : {t u : Table} {k n : ℕ} {s : squares.Square} → Grows t u → StandsFor t.rows k n s → StandsFor u.rows k n s
StandsFor-grows {t} {u} {k} {n} grows is = grind (arith, IsNumber-grows t u k n grows, square_in-grows t u k n grows)

-- four squares that are joined
pub StandsFor-joined : {rows : List (List ℕ)} {k a b d e m : ℕ} {p q r s : squares.Square} → StandsFor rows k a p → StandsFor rows k b q → StandsFor rows k d r → StandsFor rows k e s
    → IsSquareOf rows (a ∷ b ∷ d ∷ e ∷ []) m → StandsFor rows (suc k) m (four p q r s)
StandsFor-joined {rows} {k} {a} {b} {d} {e} {m} nw ne sw se is = grind (arith, IsNumber-joined rows k (a ∷ b ∷ d ∷ e ∷ []) m, square_in-joined rows k (a ∷ b ∷ d ∷ e ∷ []) m)

-- the square is padded in u: e is the number of the empty square, and ks are those of the quadrants, which are of level k and
-- have the cells that they have in t1; u has no square more than t but those of which the padded one is made
pub record IsPadding (t : Table) (square : Square) (k e : ℕ) (ks : List ℕ) (t1 u : Table) : Type 0 where
  pub cells : padded (level_of square - 1) (cells_of t square) ≡ padded k (square_of t1.rows k ks)
  pub adds : AddsPadded t square u
  pub empty : StandsFor u.rows k e (empty_square k)
  pub nw : StandsFor u.rows k (get_or ks 0 0) (square_in t1.rows k (get_or ks 0 0))
  pub ne : StandsFor u.rows k (get_or ks 1 0) (square_in t1.rows k (get_or ks 1 0))
  pub sw : StandsFor u.rows k (get_or ks 2 0) (square_in t1.rows k (get_or ks 2 0))
  pub se : StandsFor u.rows k (get_or ks 3 0) (square_in t1.rows k (get_or ks 3 0))

-- so it is where the empty square was made
pub IsPadding-begun : {t t1 : Table} {square s : Square} {k e n : ℕ} {ks : List ℕ} → 1 ≤ level_of square → k ≡ level_of square - 1 → IsHeld t square → n ≡ number_of square
    → GrowsFrom (k + 1) [] t t1 → Tells t1 k (empty_square k) s → e ≡ number_of s → ks ≡ kids_at t1.rows n → IsPadding t square k e ks t1 t1
IsPadding-begun {t} {t1} {square} {s} {k} {e} {n} {ks} some is held number grows empty at listed =
    let keeps = Keeps-grows t t1 grows.grows in
    let was = keeps.held square held in
    let cells = keeps.cells square held in
    let quadrants = square_in-quadrants t1.rows k n in
    let are = AreNumbers-quadrants t1.rows k n (grind arith) in
    record {
      cells = grind arith;
      adds = record {
        grows = grows.grows;
        notes = grows.notes;
        among = λ all blank within are. grows.among all (λ j low below. blank j low (omega (arith, below, is))) (λ i lt. absurd (omega (arith, lt))) are;
      };
      empty = grind arith;
      nw = grind (arith, are.nw);
      ne = grind (arith, are.ne);
      sw = grind (arith, are.sw);
      se = grind (arith, are.se);
    }

-- and where one more of the squares is made of which the padded one is
pub IsPadding-joined : {t t1 u v : Table} {square : Square} {k e j a b d f : ℕ} {ks : List ℕ} {p q r s : squares.Square} → IsPadding t square k e ks t1 u
    → StandsFor u.rows j a p → StandsFor u.rows j b q → StandsFor u.rows j d r → StandsFor u.rows j f s
    → ((P : squares.Square → Type 0) → HoldsWithin P (padded k (square_of t1.rows k ks)) → P (four p q r s))
    → Grows u v → GrowsBy (a ∷ b ∷ d ∷ f ∷ []) u v → IsPadding t square k e ks t1 v
IsPadding-joined {t} {t1} {u} {v} {square} {k} {e} {j} {a} {b} {d} {f} {ks} {p} {q} {r} {s} is nw ne sw se part grows step =
    let S = four p q r s in
    let adds = Adds-joined u v (a ∷ b ∷ d ∷ f ∷ []) j S grows step (λ n of.
    let made = StandsFor-joined (StandsFor-grows grows nw) (StandsFor-grows grows ne) (StandsFor-grows grows sw) (StandsFor-grows grows se) of in
    record { numbered = made.numbered; square = made.square }) in
    record {
      cells = is.cells;
      adds = record {
        grows = Grows-then t u v is.adds.grows grows;
        notes = adds.notes ∙ is.adds.notes;
        among = λ all blank within are.
            let listed = part (Contains all) (subst (HoldsWithin (Contains all)) is.cells within) in
            adds.among all (All-cons (Contains all) S [] listed (All-nil (Contains all))) (is.adds.among all blank within are);
      };
      empty = StandsFor-grows grows is.empty;
      nw = StandsFor-grows grows is.nw;
      ne = StandsFor-grows grows is.ne;
      sw = StandsFor-grows grows is.sw;
      se = StandsFor-grows grows is.se;
    }

-- each of its quadrants
module _ {t t1 u v : Table} {square : Square} {k e : ℕ} {ks : List ℕ} (is : IsPadding t square k e ks t1 u) (grows : Grows u v) where
  pub nw-joined : GrowsBy (e ∷ e ∷ e ∷ get_or ks 0 0 ∷ []) u v → IsPadding t square k e ks t1 v
  unfolding HoldsWithin
  nw-joined = IsPadding-joined is is.empty is.empty is.empty is.nw (λ P h. h.1.0) grows

  pub ne-joined : GrowsBy (e ∷ e ∷ get_or ks 1 0 ∷ e ∷ []) u v → IsPadding t square k e ks t1 v
  unfolding HoldsWithin
  ne-joined = IsPadding-joined is is.empty is.empty is.ne is.empty (λ P h. h.2.0) grows

  pub sw-joined : GrowsBy (e ∷ get_or ks 2 0 ∷ e ∷ e ∷ []) u v → IsPadding t square k e ks t1 v
  unfolding HoldsWithin
  sw-joined = IsPadding-joined is is.empty is.sw is.empty is.empty (λ P h. h.3.0) grows

  pub se-joined : GrowsBy (get_or ks 3 0 ∷ e ∷ e ∷ e ∷ []) u v → IsPadding t square k e ks t1 v
  unfolding HoldsWithin
  se-joined = IsPadding-joined is is.se is.empty is.empty is.empty (λ P h. h.4.0) grows

-- and the whole, whose number is known then
pub whole-joined : {t t1 t2 t3 t4 t5 t6 : Table} {square : Square} {k e nw ne sw se : ℕ} {ks : List ℕ}
    → IsPadding t square k e ks t1 t2 → IsSquareOf t2.rows (e ∷ e ∷ e ∷ get_or ks 0 0 ∷ []) nw → Grows t2 t3
    → IsPadding t square k e ks t1 t3 → IsSquareOf t3.rows (e ∷ e ∷ get_or ks 1 0 ∷ e ∷ []) ne → Grows t3 t4
    → IsPadding t square k e ks t1 t4 → IsSquareOf t4.rows (e ∷ get_or ks 2 0 ∷ e ∷ e ∷ []) sw → Grows t4 t5
    → IsPadding t square k e ks t1 t5 → IsSquareOf t5.rows (get_or ks 3 0 ∷ e ∷ e ∷ e ∷ []) se → Grows t5 t6 → GrowsBy (nw ∷ ne ∷ sw ∷ se ∷ []) t5 t6
    → IsPadding t square k e ks t1 t6 × ((m : ℕ) → IsSquareOf t6.rows (nw ∷ ne ∷ sw ∷ se ∷ []) m → StandsFor t6.rows (suc (suc k)) m (padded k (square_of t1.rows k ks)))
unfolding HoldsWithin
whole-joined p2 i2 g23 p3 i3 g34 p4 i4 g45 p5 i5 grows step =
    let a = StandsFor-grows g45 (StandsFor-grows g34 (StandsFor-grows g23 (StandsFor-joined p2.empty p2.empty p2.empty p2.nw i2))) in
    let b = StandsFor-grows g45 (StandsFor-grows g34 (StandsFor-joined p3.empty p3.empty p3.ne p3.empty i3)) in
    let c = StandsFor-grows g45 (StandsFor-joined p4.empty p4.sw p4.empty p4.empty i4) in
    let d = StandsFor-joined p5.se p5.empty p5.empty p5.empty i5 in (
      IsPadding-joined p5 a b c d (λ P h. h.0) grows step,
      λ m is. StandsFor-joined (StandsFor-grows grows a) (StandsFor-grows grows b) (StandsFor-grows grows c) (StandsFor-grows grows d) is,
    )

-- the number of the last square that is made is that of the padded one
pub IsPaddedNumber-made : {t t1 v : Table} {square : Square} {k e m : ℕ} {ks : List ℕ} → 1 ≤ level_of square → k ≡ level_of square - 1 → IsPadding t square k e ks t1 v
    → StandsFor v.rows (suc (suc k)) m (padded k (square_of t1.rows k ks)) → IsPaddedNumber t square v m
IsPaddedNumber-made some less is made = let limit = is.adds.grows.limit in grind arith

-- the square with empty ones round it is that of the same world
pub padded-centred : (w : World) (level : ℕ) (s : squares.Square) → 1 ≤ level → IsCentred w level s → IsCentred w (level + 1) (padded (level - 1) s)
padded-centred w level s some is = grind (arith, IsCentred-padded w (level - 1) s)

-- one square more round the last
pub AddsRound-padded : {t u v : Table} {first last : Square} {level : ℕ} → 1 ≤ level_of last → level_of last + 1 ≤ level
    → ((w : World) → IsCentred w (level_of first) (cells_of t first) → IsCentred w (level_of last) (cells_of u last)) → AddsRound t first level u
    → AddsPadded u last v → AddsRound t first level v
AddsRound-padded {t} {u} {v} {first} {last} {level} some low centred before adds = record {
  grows = Grows-then t u v before.grows adds.grows;
  notes = adds.notes ∙ before.notes;
  among = λ w all at start are.
      let is = (padded-centred w (level_of last) (cells_of u last) some (centred w at)).square in
      adds.among all (λ j h below. start.empty j h (omega (arith, below, low))) (subst (HoldsWithin (Contains all)) (sym is) (start.squares (level_of last + 1) (omega arith) low))
      (before.among w all at start are);
}
