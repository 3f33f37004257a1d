use Rattle.square_table.proofs.Names.{AreLoaded, AreRows, GrowsFrom, IfOk_then, LevelsUpTo, List, None, Some, SquareRow, Table, [], ap, arith, cases_lt, empty_below, empty_square, get_or, get_or_read, inl, inr, length, nil_from_length}
use Rattle.square_table.proofs.Names.{no_row, refl, root_level, root_level-none, root_level-some, root_of, slice_get, square_in, square_in-none, subst, sym, ℕ, ◌-◌, ◌<◌, ◌∙◌, ◌≡◌}
use Rattle.std.proofs.lemmas.Option.{slice_get_within, get_or_from_slice_get, slice_get-get_or}
use Rattle.plane_core.specs.Rows as listed
use Rattle.square_table.proofs.Loading.{GrowsFrom-same, GrowsFrom-higher, GrowsFrom-behind}
use Rattle.square_table.proofs.table.SquareTable.load_root.Goals as goal

-- without a last row there are no rows
none : (rows : List SquareRow) → slice_get rows (length rows - 1) ≡ None → rows ≡ []
none rows h =
    nil_from_length rows (elim (cases_lt 0 (length rows)) [
      | inl some ↦ let there = slice_get-get_or rows (length rows - 1) no_row (omega (arith, some)) in absurd (cc)
      | inr empty ↦ omega (arith, empty)
    ])

pub returns-in_default-clause-grows : goal.returns-in_default-clause-grows
returns-in_default-clause-grows c = grind (arith, none)

empty_root : (rows : List SquareRow) → rows ≡ [] → root_of rows ≡ empty_square 1
empty_root rows e = ap root_of e ∙ ap (λ k. listed.square_in [] k 0) root_level-none ∙ square_in-none [] 1

pub returns-in_default-clause-square : goal.returns-in_default-clause-square
returns-in_default-clause-square c = grind (arith, none, IfOk_then, root_level-none, empty_root)

-- the last row is that of the root
record IsLast (rows : List SquareRow) (root : SquareRow) : Type 0 where
  some : 0 < length rows
  level : root.level ≡ root_level rows

last : (rows : List SquareRow) (root : SquareRow) → slice_get rows (length rows - 1) ≡ Some root → IsLast rows root
last rows root h = grind (arith, slice_get_within, get_or_from_slice_get, root_level-some)

-- empty squares stand below its level
low : (rows : List SquareRow) → 0 < length rows → empty_below rows ≡ root_level rows
low q0 q1 = grind (arith)

grows : (rows : List SquareRow) (t u v : Table) (k : ℕ) (root : SquareRow) → IsLast rows root → k ≡ root.level → GrowsFrom k [] t u → GrowsFrom 0 rows u v → GrowsFrom (empty_below rows) rows t v
grows rows t u v k root is e first second =
    let level : k ≡ empty_below rows = e ∙ is.level ∙ sym (low rows is.some) in
    subst (λ j. GrowsFrom j rows t v) level (GrowsFrom-behind k rows t u v first (GrowsFrom-higher 0 k rows u v (omega arith) second))

pub returns-in_err-blanks-clause-grows : goal.returns-in_err-blanks-clause-grows
returns-in_err-blanks-clause-grows c = grind (arith, grows, last, GrowsFrom-same)

pub returns-in_err-numbers-clause-grows : goal.returns-in_err-numbers-clause-grows
returns-in_err-numbers-clause-grows c =
    grows c.args.squares.now c.args.self.now c.blanks.new.self c.load_rows.new.self _ c.in-Some.root.now (last c.args.squares.now c.in-Some.root.now (sym c.in-Some.ensures.value)) refl c.in_ok-blanks.ensures.grows c.load_rows.ensures.grows

pub returns-in_err-square-clause-grows : goal.returns-in_err-square-clause-grows
returns-in_err-square-clause-grows c =
    grows c.args.squares.now c.args.self.now c.blanks.new.self c.load_rows.new.self _ c.in-Some.root.now (last c.args.squares.now c.in-Some.root.now (sym c.in-Some.ensures.value)) refl c.in_ok-blanks.ensures.grows c.load_rows.ensures.grows

pub returns-clause-grows : goal.returns-clause-grows
returns-clause-grows c =
    grows c.args.squares.now c.args.self.now c.blanks.new.self c.load_rows.new.self _ c.in-Some.root.now (last c.args.squares.now c.in-Some.root.now (sym c.in-Some.ensures.value)) refl c.in_ok-blanks.ensures.grows c.load_rows.ensures.grows

levels : (rows : List SquareRow) (blanks seen : List ℕ) (k : ℕ) → AreRows rows × LevelsUpTo (root_level rows) rows → k ≡ root_level rows → length blanks ≡ k → seen ≡ blanks → AreRows rows × LevelsUpTo (length seen) rows
levels rows blanks seen k valid level count same = (valid.0, subst (λ n. LevelsUpTo n rows) (sym (ap length same ∙ count ∙ level)) valid.1)

pub load_rows-requires-clause-squares : goal.load_rows-requires-clause-squares
load_rows-requires-clause-squares c = grind (arith, levels, last)

-- the number that was loaded last is that of the root
root : (rows : List SquareRow) (table : List (List ℕ)) (numbers : List ℕ) (n k : ℕ) → 0 < length rows → k ≡ root_level rows
    → length numbers ≡ length rows → AreLoaded rows table numbers → n ≡ get_or numbers (length rows - 1) n → square_in table k n ≡ root_of rows
root rows table numbers n k some level count known read = grind (arith, get_or_read, root_level-some)

pub returns-clause-square : goal.returns-clause-square
returns-clause-square c = grind (arith, last, root)
