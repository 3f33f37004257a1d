use Rattle.std.proofs.Common.{◌≡◌, length, rules}
use Rattle.multistate_macrocell.proofs.Adding.{adds-row}
use Rattle.multistate_macrocell.proofs.rows.push_row.Goals as goal

pub returns : goal.returns
returns c =
    let all = c.push.new.self.items in
    let count : c.len-2.result ≡ length all = search rules in
    adds-row c.args.rows.now.items all c.args.row c.len-2.result c.requires.rows c.requires.row c.in_ok-push.ensures.items count
