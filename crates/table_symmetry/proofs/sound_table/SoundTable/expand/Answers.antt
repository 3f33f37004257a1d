use Rattle.table_symmetry.proofs.Names.{expanded, rules, ◌≡◌}
use Rattle.table_symmetry.proofs.Limits.{are_expanded}
use Rattle.table_symmetry.proofs.sound_table.SoundTable.expand.Goals as goal

pub returns-in-Ok : goal.returns-in-Ok
returns-in-Ok c =
    let table = c.args.self.now in
    let listed : c.in-Ok.rows.items ≡ expanded table = search (rules) in
    are_expanded table c.in-Ok.rows.items (rw c.self.view_is at c.self.invariant) listed
