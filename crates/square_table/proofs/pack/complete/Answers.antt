use Rattle.square_table.proofs.Names.{Numbered, [], ap, arith, bytes_eq-Decides, length_push, number_row-empty, ◌∷◌}
use Rattle.square_table.proofs.Packing.{number_row-new}
use Rattle.square_table.proofs.pack.complete.Goals as goal

pub returns-then-is_same-clause-rows : goal.returns-then-is_same-clause-rows
returns-then-is_same-clause-rows c =
    ap (λ (r : Numbered). r.rows) (number_row-empty c.args.row c.args.squares.now.items ((bytes_eq-Decides c.args.row.kids (0 ∷ 0 ∷ 0 ∷ 0 ∷ [])).1 (c.is_same.ensures.0 c.if-is_same.true)))

pub returns-then-is_same-clause-number : goal.returns-then-is_same-clause-number
returns-then-is_same-clause-number c =
    ap (λ (r : Numbered). r.number) (number_row-empty c.args.row c.args.squares.now.items ((bytes_eq-Decides c.args.row.kids (0 ∷ 0 ∷ 0 ∷ 0 ∷ [])).1 (c.is_same.ensures.0 c.if-is_same.true)))

pub returns-clause-rows : goal.returns-clause-rows
returns-clause-rows c =
    grind (arith, number_row-new c.args.row c.args.squares.now.items, bytes_eq-Decides c.args.row.kids (0 ∷ 0 ∷ 0 ∷ 0 ∷ []), c.is_same.ensures, c.if-is_same.false)

pub returns-clause-number : goal.returns-clause-number
returns-clause-number c =
    grind (arith, length_push, number_row-new c.args.row c.args.squares.now.items, bytes_eq-Decides c.args.row.kids (0 ∷ 0 ∷ 0 ∷ 0 ∷ []), c.is_same.ensures, c.if-is_same.false)

pub returns-clause-few : goal.returns-clause-few
returns-clause-few c = grind (arith, length_push)
