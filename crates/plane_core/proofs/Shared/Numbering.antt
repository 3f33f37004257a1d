-- What a walk does to the rows: it adds rows at the end, and a second walk of the same square adds none.
use Rattle.plane_core.proofs.Names.{Bool, Has, List, Numbered, Square, SquareRow, [], and_from, and_parts, ap, append-nil, arith, cond, eq-eqb, eqb, eqb-true, false, four, get_or_push, length, length-append, length_push, list_any}
use Rattle.plane_core.proofs.Names.{list_any-append, list_any_at, not, numbered, one, or_left, position_or_len, refl, same_kids, same_row, subst, suc, sym, true, zero, ℕ, ◌++◌, ◌+◌, ◌<◌, ◌||◌, ◌∙◌, ◌∷◌, ◌≡◌}
use Rattle.std.proofs.Common.{append_assoc}
use Rattle.std.proofs.lemmas.Slice.Eq.{bytes_eq-Decides}
use Rattle.worlds.specs.Square.{empty_square}
use Rattle.plane_core.specs.Rows.{number_row, number_square}

-- rows with others behind them
pub record Grows (old new : List SquareRow) : Type 0 where
  pub more : List SquareRow
  pub is : new ≡ old ++ more

pub Grows-none : (rows : List SquareRow) → Grows rows rows
Grows-none rows = record { more = []; is = sym (append-nil rows) }

pub Grows-more : (rows more : List SquareRow) → Grows rows (rows ++ more)
Grows-more rows more = record { more = more; is = refl }

pub Grows-then : (a b c : List SquareRow) → Grows a b → Grows b c → Grows a c
Grows-then a b c f g = record { more = f.more ++ g.more; is = g.is ∙ ap (λ rows. rows ++ g.more) f.is ∙ append_assoc a f.more g.more }

-- rows that have grown to themselves have not grown on the way
pub Grows-back : (a b : List SquareRow) → Grows a b → Grows b a → b ≡ a
Grows-back a b f g =
    let none : f.more ≡ [] = nothing f.more (omega (arith, ap length f.is, ap length g.is, length-append a f.more, length-append b g.more)) in
    f.is ∙ ap (λ more. a ++ more) none ∙ append-nil a
  where
    nothing : (xs : List SquareRow) → length xs ≡ 0 → xs ≡ []
    nothing [] e = refl
    nothing (x ∷ xs) e = cc

-- rows that are the same are equal
pub same_row-is : (a b : SquareRow) → same_row a b ≡ true → a ≡ b
same_row-is a b h = grind (arith, and_parts, eqb-true, bytes_eq-Decides)

pub same_row-itself : (a : SquareRow) → same_row a a ≡ true
same_row-itself a = and_from (eqb a.level a.level) (same_kids a.kids a.kids) (eq-eqb a.level a.level refl) ((bytes_eq-Decides a.kids a.kids).1 refl)

-- where a row is found, it stays when others come behind
found_kept : (p : SquareRow → Bool) (xs zs : List SquareRow) → list_any p xs ≡ true → position_or_len p (xs ++ zs) ≡ position_or_len p xs
found_kept p [] zs h = cc
found_kept p (x ∷ xs) zs h =
    elim (p x) as (λ b. ((b || list_any p xs) ≡ true) → cond (not b) (1 + position_or_len p (xs ++ zs)) 0 ≡ cond (not b) (1 + position_or_len p xs) 0) [
      | true ↦ λ e. refl
      | false ↦ λ e. ap (λ k. 1 + k) (found_kept p xs zs e)
    ] h

-- a row that isn't there has the place behind all
pub not_found : (p : SquareRow → Bool) (xs : List SquareRow) → list_any p xs ≡ false → position_or_len p xs ≡ length xs
not_found p [] h = refl
not_found p (x ∷ xs) h =
    elim (p x) as (λ b. ((b || list_any p xs) ≡ false) → cond (not b) (1 + position_or_len p xs) 0 ≡ length (x ∷ xs)) [
      | true ↦ λ e. cc
      | false ↦ λ e. let k = not_found p xs e in omega arith
    ] h

-- a row that comes last is found there, if it wasn't there
found_last : (row : SquareRow) (rows : List SquareRow) → list_any (same_row row) rows ≡ false → position_or_len (same_row row) (rows ++ row ∷ []) ≡ length rows
found_last row [] h = ap (λ b. cond {A = ℕ} (not b) 1 0) (same_row-itself row)
found_last row (x ∷ xs) h =
    elim (same_row row x) as (λ b. ((b || list_any (same_row row) xs) ≡ false) → cond (not b) (1 + position_or_len (same_row row) (xs ++ row ∷ [])) 0 ≡ length (x ∷ xs)) [
      | true ↦ λ e. cc
      | false ↦ λ e. let k = found_last row xs e in omega arith
    ] h

there_kept : (p : SquareRow → Bool) (xs zs : List SquareRow) → list_any p xs ≡ true → list_any p (xs ++ zs) ≡ true
there_kept p xs zs h = list_any-append p xs zs ∙ or_left _ _ h

there_last : (row : SquareRow) (rows : List SquareRow) → list_any (same_row row) (rows ++ row ∷ []) ≡ true
there_last row rows = list_any_at (same_row row) (rows ++ row ∷ []) (length rows) row (omega (arith, length_push rows row)) (ap (same_row row) (get_or_push rows row row (length rows) refl) ∙ same_row-itself row)

-- the number of a row is n, and it adds nothing
abbrev pub RowHas : SquareRow → List SquareRow → ℕ → Type 0
RowHas row rows n = number_row row rows ≡ record { rows = rows; number = n }

numbered-grows : (b c : Bool) (row : SquareRow) (rows : List SquareRow) (n : ℕ) → Grows rows (numbered b c row rows n).rows
numbered-grows b c row rows n = grind (arith, Grows-none, Grows-more)

pub number_row-grows : (row : SquareRow) (rows : List SquareRow) → Grows rows (number_row row rows).rows
unfolding number_row
number_row-grows row rows = numbered-grows _ _ row rows _

-- a walk adds rows at the end
pub number_square-grows : (k : ℕ) (t : Square) (rows : List SquareRow) → Grows rows (number_square k t rows).rows
unfolding number_square
number_square-grows k (one s) rows = Grows-none rows
number_square-grows zero (four nw ne sw se) rows = Grows-none rows
number_square-grows (suc k) (four nw ne sw se) rows =
    let a = number_square k nw rows in
    let b = number_square k ne a.rows in
    let c = number_square k sw b.rows in
    let d = number_square k se c.rows in
    Grows-then _ _ _ (number_square-grows k nw rows)
    (Grows-then _ _ _ (number_square-grows k ne a.rows)
    (Grows-then _ _ _ (number_square-grows k sw b.rows)
    (Grows-then _ _ _ (number_square-grows k se c.rows) (number_row-grows _ d.rows))))

has_longer : (row : SquareRow) (rows : List SquareRow) → rows ++ row ∷ [] ≡ rows → ⊥
has_longer row rows e = absurd (omega (arith, ap length e, length_push rows row))

numbered-kept : (b c c' : Bool) (row : SquareRow) (rows zs : List SquareRow) (m m' n : ℕ) → (c ≡ true → c' ≡ true) → (c ≡ true → m' ≡ m)
    → numbered b c row rows m ≡ record { rows = rows; number = n } → numbered b c' row (rows ++ zs) m' ≡ record { rows = rows ++ zs; number = n }
numbered-kept b c c' row rows zs m m' n there same e = grind (arith, has_longer)

-- a row that has a number keeps it when others come behind
pub RowHas-kept : (row : SquareRow) (rows zs : List SquareRow) (n : ℕ) → RowHas row rows n → RowHas row (rows ++ zs) n
unfolding number_row
RowHas-kept row rows zs n h =
    numbered-kept _ _ _ row rows zs _ _ n (there_kept (same_row row) rows zs) (λ there. ap (λ k. k + 1) (found_kept (same_row row) rows zs there)) h

-- four squares that have numbers, and their row
pub Has-four : (k : ℕ) (nw ne sw se : Square) (rows : List SquareRow) (a b c d n : ℕ) → Has k nw rows a → Has k ne rows b → Has k sw rows c → Has k se rows d
    → RowHas (record { level = suc k; kids = a ∷ b ∷ c ∷ d ∷ [] }) rows n → Has (suc k) (four nw ne sw se) rows n
unfolding number_square
Has-four k nw ne sw se rows a b c d n ha hb hc hd hr = grind (arith)

-- a square that has a number keeps it when others come behind
pub Has-kept : (k : ℕ) (t : Square) (rows zs : List SquareRow) (n : ℕ) → Has k t rows n → Has k t (rows ++ zs) n
unfolding number_square
Has-kept k (one s) rows zs n h = λ i. record { rows = rows ++ zs; number = (h i).number }
Has-kept zero (four nw ne sw se) rows zs n h = λ i. record { rows = rows ++ zs; number = (h i).number }
Has-kept (suc k) (four nw ne sw se) rows zs n h =
    let a = number_square k nw rows in
    let b = number_square k ne a.rows in
    let c = number_square k sw b.rows in
    let d = number_square k se c.rows in
    let row : SquareRow = record { level = suc k; kids = a.number ∷ b.number ∷ c.number ∷ d.number ∷ [] } in
    let end : (number_row row d.rows).rows ≡ rows = ap (λ (r : Numbered). r.rows) h in
    let ga : Grows rows a.rows = number_square-grows k nw rows in
    let gb : Grows a.rows b.rows = number_square-grows k ne a.rows in
    let gc : Grows b.rows c.rows = number_square-grows k sw b.rows in
    let gd : Grows c.rows d.rows = number_square-grows k se c.rows in
    let ge : Grows d.rows rows = subst (Grows d.rows) end (number_row-grows row d.rows) in
    let same_d : d.rows ≡ rows = Grows-back rows d.rows (Grows-then rows a.rows d.rows ga (Grows-then a.rows b.rows d.rows gb (Grows-then b.rows c.rows d.rows gc gd))) ge in
    let same_c : c.rows ≡ rows = Grows-back rows c.rows (Grows-then rows a.rows c.rows ga (Grows-then a.rows b.rows c.rows gb gc)) (Grows-then c.rows d.rows rows gd ge) in
    let same_b : b.rows ≡ rows = Grows-back rows b.rows (Grows-then rows a.rows b.rows ga gb) (Grows-then b.rows c.rows rows gc (Grows-then c.rows d.rows rows gd ge)) in
    let same_a : a.rows ≡ rows = Grows-back rows a.rows ga (Grows-then a.rows b.rows rows gb (Grows-then b.rows c.rows rows gc (Grows-then c.rows d.rows rows gd ge))) in
    let ha : Has k nw rows a.number = λ i. record { rows = same_a i; number = a.number } in
    let hb : Has k ne rows b.number = has_from k ne a.rows rows same_a same_b in
    let hc : Has k sw rows c.number = has_from k sw b.rows rows same_b same_c in
    let hd : Has k se rows d.number = has_from k se c.rows rows same_c same_d in
    let hr : RowHas row rows n = subst (λ (z : List SquareRow). number_row row z ≡ record { rows = rows; number = n }) same_d h in
    Has-four k nw ne sw se (rows ++ zs) a.number b.number c.number d.number n
    (Has-kept k nw rows zs a.number ha) (Has-kept k ne rows zs b.number hb) (Has-kept k sw rows zs c.number hc) (Has-kept k se rows zs d.number hd)
    (RowHas-kept row rows zs n hr)
  where
    has_from : (k : ℕ) (t : Square) (from rows : List SquareRow) → from ≡ rows → (number_square k t from).rows ≡ rows → Has k t rows (number_square k t from).number
    has_from k t from rows e f = ap (number_square k t) (sym e) ∙ (λ i. record { rows = f i; number = (number_square k t from).number })

-- `number_row`, by its tests
pub number_row-is : (row : SquareRow) (rows : List SquareRow) → number_row row rows ≡ numbered (same_kids row.kids (0 ∷ 0 ∷ 0 ∷ 0 ∷ [])) (list_any (same_row row) rows) row rows (position_or_len (same_row row) rows + 1)
unfolding number_row
number_row-is row rows = refl

-- a row that was numbered has its number
pub RowHas-again : (row : SquareRow) (rows : List SquareRow) → RowHas row (number_row row rows).rows (number_row row rows).number
RowHas-again row rows = grind (arith, number_row-is, there_last, found_last, not_found)

-- what has grown keeps the numbers
pub Has-grown : (k : ℕ) (t : Square) (old new : List SquareRow) (n : ℕ) → Grows old new → Has k t old n → Has k t new n
Has-grown k t old new n g h = subst (λ (rows : List SquareRow). Has k t rows n) (sym g.is) (Has-kept k t old g.more n h)

-- a square that was walked has its number
pub Has-again : (k : ℕ) (t : Square) (rows : List SquareRow) → Has k t (number_square k t rows).rows (number_square k t rows).number
unfolding number_square
Has-again k (one s) rows = refl
Has-again zero (four nw ne sw se) rows = refl
Has-again (suc k) (four nw ne sw se) rows =
    let a = number_square k nw rows in
    let b = number_square k ne a.rows in
    let c = number_square k sw b.rows in
    let d = number_square k se c.rows in
    let row : SquareRow = record { level = suc k; kids = a.number ∷ b.number ∷ c.number ∷ d.number ∷ [] } in
    let end = number_row row d.rows in
    let gb : Grows a.rows b.rows = number_square-grows k ne a.rows in
    let gc : Grows b.rows c.rows = number_square-grows k sw b.rows in
    let gd : Grows c.rows d.rows = number_square-grows k se c.rows in
    let ge : Grows d.rows end.rows = number_row-grows row d.rows in
    let gce : Grows c.rows end.rows = Grows-then c.rows d.rows end.rows gd ge in
    let gbe : Grows b.rows end.rows = Grows-then b.rows c.rows end.rows gc gce in
    Has-four k nw ne sw se end.rows a.number b.number c.number d.number end.number
    (Has-grown k nw a.rows end.rows a.number (Grows-then a.rows b.rows end.rows gb gbe) (Has-again k nw rows))
    (Has-grown k ne b.rows end.rows b.number gbe (Has-again k ne a.rows))
    (Has-grown k sw c.rows end.rows c.number gce (Has-again k sw b.rows))
    (Has-grown k se d.rows end.rows d.number ge (Has-again k se c.rows))
    (RowHas-again row d.rows)

-- an empty square has the number 0
pub Has-empty : (k : ℕ) (rows : List SquareRow) → Has k (empty_square k) rows 0
unfolding empty_square number_square number_row
Has-empty zero rows = refl
Has-empty (suc k) rows =
    let e : Has k (empty_square k) rows 0 = Has-empty k rows in
    Has-four k (empty_square k) (empty_square k) (empty_square k) (empty_square k) rows 0 0 0 0 0 e e e e refl

-- a square has one number
pub Has-one : (k : ℕ) (t : Square) (rows : List SquareRow) (m n : ℕ) → Has k t rows m → Has k t rows n → m ≡ n
Has-one k t rows m n e f = ap (λ (r : Numbered). r.number) (sym e ∙ f)

-- an empty row has the number 0
pub number_row-empty : (row : SquareRow) (rows : List SquareRow) → same_kids row.kids (0 ∷ 0 ∷ 0 ∷ 0 ∷ []) ≡ true → RowHas row rows 0
number_row-empty row rows e = number_row-is row rows ∙ ap (λ b. numbered b (list_any (same_row row) rows) row rows (position_or_len (same_row row) rows + 1)) e

by_there : (b : Bool) (row : SquareRow) (rows : List SquareRow) (n : ℕ) → numbered false b row rows n ≡ record { rows = cond b rows (rows ++ row ∷ []); number = n }
by_there b row rows n = grind (arith)

-- any other goes where an insertion puts it
pub number_row-insert : (row : SquareRow) (rows : List SquareRow) → same_kids row.kids (0 ∷ 0 ∷ 0 ∷ 0 ∷ []) ≡ false
    → number_row row rows ≡ record { rows = cond (list_any (same_row row) rows) rows (rows ++ row ∷ []); number = position_or_len (same_row row) rows + 1 }
number_row-insert row rows e = grind (arith, number_row-is, by_there)

few_by : (b : Bool) (row : SquareRow) (rows : List SquareRow) (n : ℕ) → length rows < n → (b ≡ false → length rows + 1 < n) → length (cond b rows (rows ++ row ∷ [])) < n
few_by b row rows n h g = grind (arith, length_push)

-- after an insertion there are as many rows as before, or as the place that it gave
pub few_more : (row : SquareRow) (rows : List SquareRow) (n : ℕ) → length rows < n → position_or_len (same_row row) rows + 1 < n → length (cond (list_any (same_row row) rows) rows (rows ++ row ∷ [])) < n
few_more row rows n h g = few_by (list_any (same_row row) rows) row rows n h (λ none. let k = not_found (same_row row) rows none in omega arith)
