-- The squares that a table has beside those of another, from which it came, as different squares.
use Rattle.step_engine.proofs.Names.{All, All-cons, All-nil, All-weaker, AreAmong, AreDifferent, AreDistinct, Contains, Contains-append_right, Contains-get_or, Grows, HasWay, IsMade, IsNumber-grows, List, Square, Table, World, []}
use Rattle.step_engine.proofs.Names.{ap, arith, cases_eq, first_number, four, inl, inr, length, one, refl, square_in-grows, subst, suc, sym, zero, ℕ, ◌+◌, ◌<◌, ◌∙◌, ◌∷◌, ◌≡◌, ◌≢◌, ◌≤◌}
use Rattle.std.specs.Prelude.{◌++◌}
use Rattle.std.proofs.lemmas.List.Elements.{All-contains, Contains-append_cases, Contains-append_left}
use Rattle.std.proofs.lemmas.List.Kept.{AllPairs-cons}
use Rattle.hash_life_laws.proofs.Shared.Made.{Makes-weaker}
use Rattle.square_table.specs.Made.{HasStart, HoldsWithin, IsAmong}
use Rattle.square_table.specs.Squares.{IsNumber, square_in}
use Rattle.step_engine.specs.Kept.{AreSquares}
use Rattle.step_engine.proofs.Shared.Held.{IsBefore, apart}

-- a table with no row
pub no_rows : (rows : List (List ℕ)) → rows ≡ [] → AreSquares (length rows) rows
no_rows rows none = record { there = omega arith; each = λ i below. absurd (omega (arith, below, ap (λ (all : List (List ℕ)). length all) none)) }

-- the squares of the first n rows, as a list
pub record AreOwn (rows : List (List ℕ)) (n : ℕ) : Type 0 where
  pub squares : List Square
  pub made : All (IsMade rows) squares
  pub each : (i : ℕ) → i < n → IsAmong squares rows (first_number + i)

own_rows : (rows : List (List ℕ)) → AreSquares (length rows) rows → (n : ℕ) → n ≤ length rows → AreOwn rows n
own_rows rows are zero low = record { squares = []; made = All-nil (IsMade rows); each = λ i below. absurd (omega (arith, below)) }
own_rows rows are (suc n) low =
    let rest = own_rows rows are n (omega (arith, low)) in
    let at = are.each n (omega (arith, low)) in
    let s = square_in rows (suc at.0) (first_number + n) in
    let here : IsMade rows s = record { level = at.0; number = first_number + n; numbered = at.1; square = refl } in
    let last : IsAmong (s ∷ rest.squares) rows (first_number + n) = record { level = at.0; numbered = at.1; listed = Contains-get_or (s ∷ rest.squares) 0 s (omega arith) } in
    record {
      squares = s ∷ rest.squares;
      made = All-cons (IsMade rows) s rest.squares here rest.made;
      each = λ i below. elim (cases_eq i n) [
        | inl same ↦ subst (λ j. IsAmong (s ∷ rest.squares) rows (first_number + j)) (sym same) last
        | inr other ↦
            let before = rest.each i (omega (arith, below, other)) in
            record { level = before.level; numbered = before.numbered; listed = Contains-append_right (s ∷ []) rest.squares _ before.listed }
      ];
    }

-- different squares of n rows behind the first m, all of them among these
record AreLater (all : List Square) (rows : List (List ℕ)) (m n : ℕ) : Type 0 where
  squares : List Square
  different : AreDifferent squares n all
  before : All (IsBefore rows (m + n)) squares

later_rows : (all : List Square) (rows : List (List ℕ)) (m : ℕ) → AreDistinct rows → ((i : ℕ) → m ≤ i → i < length rows → IsAmong all rows (first_number + i)) → (n : ℕ) → m + n ≤ length rows → AreLater all rows m n
later_rows all rows m distinct among zero low = record {
  squares = [];
  different = record { count = refl; different = λ i j d below there. absurd (omega (arith, there)); listed = All-nil (Contains all) };
  before = All-nil (IsBefore rows (m + 0));
}
later_rows all rows m distinct among (suc n) low =
    let rest = later_rows all rows m distinct among n (omega (arith, low)) in
    let at = among (m + n) (omega arith) (omega (arith, low)) in
    let s = square_in rows (suc at.level) (first_number + (m + n)) in
    let here : IsMade rows s = record { level = at.level; number = first_number + (m + n); numbered = at.numbered; square = refl } in
    record {
      squares = s ∷ rest.squares;
      different = record {
        count = ap suc rest.different.count;
        different = AllPairs-cons (λ p q. p ≢ q) s rest.squares (All-weaker (IsBefore rows (m + n)) (λ t. s ≢ t) (apart rows distinct (m + n) s here refl) rest.squares rest.before) rest.different.different;
        listed = All-cons (Contains all) s rest.squares at.listed rest.different.listed;
      };
      before = All-cons (IsBefore rows (m + suc n)) s rest.squares (here, omega arith)
          (All-weaker (IsBefore rows (m + n)) (IsBefore rows (m + suc n)) (λ t is. (is.0, omega (arith, is.1))) rest.squares rest.before);
    }

-- what holds of each part of a square
within-weaker : (P Q : Square → Type 0) → ((s : Square) → P s → Q s) → (s : Square) → HoldsWithin P s → HoldsWithin Q s
unfolding HoldsWithin
within-weaker P Q so (one s) within = tt
within-weaker P Q so (four nw ne sw se) within =
    (so _ within.0, within-weaker P Q so nw within.1, within-weaker P Q so ne within.2, within-weaker P Q so sw within.3, within-weaker P Q so se within.4)

-- with more squares they have as much
module _ (all more : List Square) where
  kept : (s : Square) → Contains all s → Contains (all ++ more) s
  kept = Contains-append_left all more

  start-more : {w : World} {k : ℕ} → HasStart all w k → HasStart (all ++ more) w k
  start-more start = record {
    empty = λ j low below. kept _ (start.empty j low below);
    squares = λ j low below. within-weaker (Contains all) (Contains (all ++ more)) kept _ (start.squares j low below);
  }

  pub way-more : {next : List ℕ → ℕ} {w : World} {k n : ℕ} → HasWay all next w k n → HasWay (all ++ more) next w k n
  way-more {next} {w} {k} {n} way = record {
    start = start-more way.start;
    way = Makes-weaker next k n _ (Contains all) (Contains (all ++ more)) kept way.way;
  }

-- the squares of all rows
pub own : {rows : List (List ℕ)} → AreSquares (length rows) rows → AreOwn rows (length rows)
own {rows} are = own_rows rows are (length rows) (omega arith)

-- a table u that came of t, whose rows are all those of squares
module _ {t u : Table} (grows : Grows t u) (distinct : AreDistinct u.rows) (are : AreSquares (length t.rows) t.rows) where
  was_before : (i : ℕ) → length t.rows ≤ i → (s : Square) → IsMade t.rows s → IsBefore u.rows i s
  unfolding IsNumber
  was_before i late s made = (
    record {
      level = made.level;
      number = made.number;
      numbered = IsNumber-grows t u (suc made.level) made.number grows made.numbered;
      square = square_in-grows t u (suc made.level) made.number grows made.numbered ∙ made.square;
    },
    omega (arith, late, made.numbered.1),
  )

  -- a square behind those of t isn't one of them
  behind : (all : List Square) → AreAmong (all ++ (own are).squares) u.rows → (i : ℕ) → length t.rows ≤ i → i < length u.rows → IsAmong all u.rows (first_number + i)
  behind all among i late there =
      let at = among.each i there in
      let s = square_in u.rows (suc at.level) (first_number + i) in
      let here : IsMade u.rows s = record { level = at.level; number = first_number + i; numbered = at.numbered; square = refl } in
      elim (Contains-append_cases all (own are).squares s at.listed) [
        | inl listed ↦ record { level = at.level; numbered = at.numbered; listed = listed }
        | inr old ↦ absurd (apart u.rows distinct i s here refl s (was_before i late s (All-contains (IsMade t.rows) (own are).squares s (own are).made old)) refl)
      ]

  own-among : (all : List Square) → AreAmong (all ++ (own are).squares) t.rows
  own-among all = record {
    each = λ i there.
        let at = (own are).each i there in
        record { level = at.level; numbered = at.numbered; listed = Contains-append_right all (own are).squares _ at.listed };
  }

  -- if u has none beside t's but those of a list, this has as many different ones as rows were added
  pub beside_many : (all : List Square) → (AreAmong (all ++ (own are).squares) t.rows → AreAmong (all ++ (own are).squares) u.rows)
      → (many : ℕ) → length t.rows + many ≤ length u.rows → (squares : List Square) × AreDifferent squares many all
  beside_many all adds many low =
      let later = later_rows all u.rows (length t.rows) distinct (behind all (adds (own-among all))) many low in
      (later.squares, later.different)
