use Rattle.square_table.proofs.Names.{IsNumber, arith, bytes_eq-Decides, get_or, subst, ℕ, ◌-◌, ◌<◌, ◌≡◌, ◌≤◌}
use Rattle.square_table.proofs.Packing.{padded_by, quadrant_numbers}
use Rattle.square_table.proofs.table.SquareTable.is_padded.Goals as goal

below : (level : ℕ) → 2 ≤ level → 0 < level - 1
below level h = omega (arith, h)

two_less : (level : ℕ) → level - 1 - 1 ≡ level - 2
two_less level = omega arith

pub is_blank-requires : goal.is_blank-requires
is_blank-requires c =
    subst (λ k. IsNumber c.args.self.now.rows k (get_or c.quadrants-nw.result 0 0)) (two_less c.args.whole.level)
    (quadrant_numbers c.args.self.now.rows (c.args.whole.level - 1) (get_or c.args.whole.kids 0 0) c.quadrants-nw.result (below c.args.whole.level c.requires.level) c.requires.numbers.nw c.quadrants-nw.ensures).nw

pub returns-then-eq : goal.returns-then-eq
returns-then-eq c = grind (arith, padded_by, bytes_eq-Decides)
