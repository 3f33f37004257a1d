use Rattle.square_table.proofs.Names.{AreLoaded, IsLoading, List, SquareRow, [], arith, get_or, length, no_row, number_in, subst, sym, ℕ, ◌-◌, ◌<◌, ◌∷◌, ◌≡◌, ◌≤◌}
use Rattle.square_table.proofs.Loading.{IsNext, next_found, next_kid, next_kids, next_grows, next_loaded}
use Rattle.square_table.proofs.table.SquareTable.push_next.Goals as goal

-- the level of the kids of the i-th row
abbrev below : List SquareRow → ℕ → ℕ
below squares i = (get_or squares i no_row).level - 1

is_next : (squares : List SquareRow) (blanks numbers : List ℕ) (rows : List (List ℕ)) (i : ℕ) → i ≡ length numbers → IsLoading squares blanks rows numbers → length numbers < length squares
    → IsNext squares blanks numbers rows i (below squares i)
is_next squares blanks numbers rows i same is more = grind (arith)

-- the q-th kid is 0 or the number of a row that is loaded
early : (squares : List SquareRow) (blanks numbers seen : List ℕ) (rows : List (List ℕ)) (i q : ℕ) → IsNext squares blanks numbers rows i (below squares i) → q < 4 → seen ≡ numbers → 1 ≤ below squares i → next_kid squares i q ≤ length seen
early squares blanks numbers seen rows i q next hq e h = subst (λ (ns : List ℕ). next_kid squares i q ≤ length ns) (sym e) ((next_found squares blanks numbers rows i (below squares i) q next hq).listed h)

pub number_in-nw-requires-clause-listed : goal.number_in-nw-requires-clause-listed
number_in-nw-requires-clause-listed c = grind (arith, early, is_next)

pub number_in-ne-requires-clause-listed : goal.number_in-ne-requires-clause-listed
number_in-ne-requires-clause-listed c = grind (arith, early, is_next)

pub number_in-sw-requires-clause-listed : goal.number_in-sw-requires-clause-listed
number_in-sw-requires-clause-listed c = grind (arith, early, is_next)

pub number_in-se-requires-clause-listed : goal.number_in-se-requires-clause-listed
number_in-se-requires-clause-listed c = grind (arith, early, is_next)

-- the numbers that are joined
joined : (squares : List SquareRow) (blanks numbers s0 s1 s2 s3 : List ℕ) (i m0 m1 m2 m3 : ℕ) → s0 ≡ numbers → s1 ≡ numbers → s2 ≡ numbers → s3 ≡ numbers
    → m0 ≡ number_in blanks s0 (below squares i) (next_kid squares i 0) → m1 ≡ number_in blanks s1 (below squares i) (next_kid squares i 1)
    → m2 ≡ number_in blanks s2 (below squares i) (next_kid squares i 2) → m3 ≡ number_in blanks s3 (below squares i) (next_kid squares i 3)
    → (m0 ∷ m1 ∷ m2 ∷ m3 ∷ []) ≡ next_kids squares blanks numbers i (below squares i)
unfolding next_kids
joined squares blanks numbers s0 s1 s2 s3 i m0 m1 m2 m3 e0 e1 e2 e3 h0 h1 h2 h3 = grind (arith, next_kid)

pub returns-in_err-push-clause-grows : goal.returns-in_err-push-clause-grows
returns-in_err-push-clause-grows c =
    next_grows c.args.squares.now c.args.blanks.now c.args.numbers.now.items _ c.args.self.now c.join_numbers.new.self c.len.result (below c.args.squares.now c.len.result)
    (is_next c.args.squares.now c.args.blanks.now c.args.numbers.now.items c.args.self.now.rows c.len.result (omega (arith, c.len.ensures, c.args.numbers.now.ok.0)) c.requires.loading c.requires.more)
    (joined c.args.squares.now c.args.blanks.now c.args.numbers.now.items _ _ _ _ c.len.result _ _ _ _ c.deref.ensures.value c.deref-2.ensures.value c.deref-3.ensures.value c.deref-4.ensures.value
    c.number_in-nw.ensures c.number_in-ne.ensures c.number_in-sw.ensures c.number_in-se.ensures)
    c.in_ok-next.ensures.grows c.in_ok-next.ensures.one

pub returns-clause-grows : goal.returns-clause-grows
returns-clause-grows c =
    next_grows c.args.squares.now c.args.blanks.now c.args.numbers.now.items _ c.args.self.now c.join_numbers.new.self c.len.result (below c.args.squares.now c.len.result)
    (is_next c.args.squares.now c.args.blanks.now c.args.numbers.now.items c.args.self.now.rows c.len.result (omega (arith, c.len.ensures, c.args.numbers.now.ok.0)) c.requires.loading c.requires.more)
    (joined c.args.squares.now c.args.blanks.now c.args.numbers.now.items _ _ _ _ c.len.result _ _ _ _ c.deref.ensures.value c.deref-2.ensures.value c.deref-3.ensures.value c.deref-4.ensures.value
    c.number_in-nw.ensures c.number_in-ne.ensures c.number_in-sw.ensures c.number_in-se.ensures)
    c.in_ok-next.ensures.grows c.in_ok-next.ensures.one

pub returns-clause-loaded : goal.returns-clause-loaded
returns-clause-loaded c =
    subst (AreLoaded c.args.squares.now c.join_numbers.new.self.rows) (sym c.in_ok-push.ensures)
    (next_loaded c.args.squares.now c.args.blanks.now c.args.numbers.now.items _ c.args.self.now c.join_numbers.new.self c.len.result (below c.args.squares.now c.len.result) c.in_ok-next.next
    (is_next c.args.squares.now c.args.blanks.now c.args.numbers.now.items c.args.self.now.rows c.len.result (omega (arith, c.len.ensures, c.args.numbers.now.ok.0)) c.requires.loading c.requires.more)
    (joined c.args.squares.now c.args.blanks.now c.args.numbers.now.items _ _ _ _ c.len.result _ _ _ _ c.deref.ensures.value c.deref-2.ensures.value c.deref-3.ensures.value c.deref-4.ensures.value
    c.number_in-nw.ensures c.number_in-ne.ensures c.number_in-sw.ensures c.number_in-se.ensures)
    c.in_ok-next.ensures.grows c.in_ok-next.ensures.square)
