use Rattle.square_table.proofs.Names.{Grows, GrowsBy, GrowsFrom, IsNumber, Table, [], add-one, arith, empty_square, rules, square_in, subst, suc, sym, ℕ, ◌+◌, ◌≡◌, ◌≤◌}
use Rattle.square_table.proofs.Shared.Numbers.{IsNumber-state, square_in-cell}
use Rattle.square_table.proofs.Loading.{GrowsFrom-same, GrowsFrom-then, GrowsFrom-higher, empty_square-zero, four_of, blank_joined, blank_grows}
use Rattle.square_table.proofs.table.SquareTable.blank.Goals as goal

pub loop-init : goal.loop-init
loop-init c = search (rules, GrowsFrom-same, IsNumber-state, square_in-cell, empty_square-zero)

-- one join more, of which the levels stay below a bound
more : (t u v : Table) (k b level : ℕ) → k + 2 ≤ level → IsNumber u.rows k b → square_in u.rows k b ≡ empty_square k → GrowsFrom (k + 1) [] t u → Grows u v → GrowsBy (four_of b) u v → GrowsFrom level [] t v
more t u v k b level low is same before grows step =
    GrowsFrom-then level [] t u v (GrowsFrom-higher (k + 1) level [] t u (omega (arith, low)) before)
    (GrowsFrom-higher (suc (suc k)) level [] u v (omega (arith, low)) (blank_grows u v k b is same grows step))

pub returns-in_err-number-clause-grows : goal.returns-in_err-number-clause-grows
returns-in_err-number-clause-grows c = grind (arith, more)

pub loop-preserved : goal.loop-preserved
loop-preserved c =
    let was = c.loop.invariant in
    let k = c.loop.counter in
    let joined = blank_joined c.loop.self c.join_numbers.new.self k c.loop.number c.in_ok-number.number was.number was.cells c.join_numbers.ensures.grows c.in_ok-number.ensures.square in
    record {
      grows = more c.args.self.now c.loop.self c.join_numbers.new.self k c.loop.number _ (omega arith) was.number was.cells was.grows c.join_numbers.ensures.grows c.join_numbers.ensures.one;
      number = subst (λ j. IsNumber c.join_numbers.new.self.rows j c.in_ok-number.number) (sym (add-one k)) joined.numbered;
      cells = subst (λ j. square_in c.join_numbers.new.self.rows j c.in_ok-number.number ≡ empty_square j) (sym (add-one k)) joined.square;
    }
