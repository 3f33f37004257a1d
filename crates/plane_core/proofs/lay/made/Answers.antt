use Rattle.plane_core.proofs.Names.{IsNamed, List, SquareRow, get_or, rules, subst}
use Rattle.plane_core.proofs.Laying.{made-before, made-empty}
use Rattle.plane_core.proofs.lay.made.Goals as goal

pub returns-then-are_same : goal.returns-then-are_same
returns-then-are_same c =
    made-empty c.args.rows.now.items c.args.row.level c.args.row.kids c.requires.rows.0 c.requires.rows.1 c.requires.row.low (c.are_same.ensures.0 (search rules))

pub returns-then-is_number_of : goal.returns-then-is_number_of
returns-then-is_number_of c =
    made-before c.args.rows.now.items c.args.row (get_or c.args.hints.now c.slot-slot.result 0) c.requires.rows.0 c.requires.rows.1 c.requires.row.low
    (subst (λ (rs : List SquareRow). IsNamed rs (get_or c.args.hints.now c.slot-slot.result 0) c.args.row) c.deref.ensures.value (c.is_number_of.ensures (search rules)))
