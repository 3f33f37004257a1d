use Rattle.table_symmetry.proofs.Names.{AreNineBelow, rules}
use Rattle.table_symmetry.proofs.FirstMatch.{next-expanded}
use Rattle.table_symmetry.proofs.table.TableRule.next.Goals as goal

pub returns : goal.returns
returns c =
    let around = c.args.around.now.0 in
    let nine : AreNineBelow c.self.inside.table.states around = record { nine = search (rules); below = rw c.self.view_is c.requires } in
    let found = c.find.ensures _ _ _ c.self.invariant nine in
    rw (found, next-expanded c.self.inside.table around, c.self.view_is) at c.unwrap_or.ensures
