use Rattle.square_table.proofs.Names.{List, ap, arith, get_or, get_or_read, length, ℕ, ◌-◌, ◌<◌, ◌∙◌, ◌≡◌}
use Rattle.square_table.proofs.Loading.{blanks_grow, AreBlanks-more}
use Rattle.square_table.proofs.table.SquareTable.push_blank.Goals as goal

-- the number that is read is the last
last : (xs : List ℕ) (n v : ℕ) → n ≡ length xs → 0 < length xs → v ≡ get_or xs (n - 1) v → v ≡ get_or xs (length xs - 1) 0
last xs n v e some read = get_or_read xs (length xs - 1) v (omega (arith, some)) (read ∙ ap (λ m. get_or xs (m - 1) v) e) 0

pub returns-in_err-push-clause-grows : goal.returns-in_err-push-clause-grows
returns-in_err-push-clause-grows c = grind (arith, blanks_grow, last)

pub returns-clause-grows : goal.returns-clause-grows
returns-clause-grows c = grind (arith, blanks_grow, last)

pub returns-clause-blanks : goal.returns-clause-blanks
returns-clause-blanks c = grind (arith, AreBlanks-more, last)
