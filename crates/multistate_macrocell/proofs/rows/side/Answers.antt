use Rattle.std.proofs.Common.{◌≤◌, ◌^◌, arith, pow_mono}
use Rattle.multistate_macrocell.proofs.rows.side.Goals as goal

pub returns-clause-small : goal.returns-clause-small
returns-clause-small c =
    let h : c.args.level ≤ 3 = c.requires in
    let p : 2 ^ c.args.level ≤ 2 ^ 3 = pow_mono h in
    omega arith
