use Rattle.square_table.proofs.Names.{GrowsFrom, List, Table, [], ap, arith, length, refl, rules, subst, sym, ℕ, ◌++◌, ◌+◌, ◌∙◌, ◌∷◌, ◌≡◌}
use Rattle.square_table.proofs.Loading.{GrowsFrom-same, GrowsFrom-then, GrowsFrom-higher, AreBlanks-first}
use Rattle.square_table.proofs.table.SquareTable.blanks.Goals as goal

-- the first blank square alone
first : (xs ys : List ℕ) → xs ≡ ys ++ 0 ∷ [] → ys ≡ [] → xs ≡ (0 ∷ [])
first xs ys e none = e ∙ ap (λ (zs : List ℕ). zs ++ 0 ∷ []) none

pub loop-init : goal.loop-init
loop-init c = search (rules, GrowsFrom-same, first, AreBlanks-first)

-- one more
more : (t u v : Table) (m n : ℕ) → n ≡ m + 1 → GrowsFrom m [] t u → GrowsFrom (m + 1) [] u v → GrowsFrom n [] t v
more t u v m n is first second = subst (λ k. GrowsFrom k [] t v) (sym is) (GrowsFrom-then (m + 1) [] t u v (GrowsFrom-higher m (m + 1) [] t u (omega arith) first) second)

pub returns-in_err-push_blank-clause-grows : goal.returns-in_err-push_blank-clause-grows
returns-in_err-push_blank-clause-grows c =
    GrowsFrom-higher (length c.loop.blanks.items + 1) c.args.level [] c.args.self.now c.push_blank.new.self (omega (arith, c.loop.invariant.count, c.loop-test.true))
    (more c.args.self.now c.loop.self c.push_blank.new.self (length c.loop.blanks.items) _ refl c.loop.invariant.grows c.in_err-push_blank.ensures.grows)

pub loop-preserved : goal.loop-preserved
loop-preserved c = record {
  grows = more c.args.self.now c.loop.self c.push_blank.new.self (length c.loop.blanks.items) _ c.in_ok-push_blank.ensures.count c.loop.invariant.grows c.in_ok-push_blank.ensures.grows;
  count = c.in_ok-push_blank.ensures.count ∙ ap (λ n. n + 1) c.loop.invariant.count;
  blanks = c.in_ok-push_blank.ensures.blanks;
}

pub returns-clause-grows : goal.returns-clause-grows
returns-clause-grows c = grind (arith, GrowsFrom-higher)
