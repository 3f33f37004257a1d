use Rattle.std.proofs.Common.{◌+◌, ◌<◌, ◌^◌, length, arith}
use Rattle.plane_core.proofs.Shared.Adding.{added}
use Rattle.plane_core.proofs.raise.push_row.Goals as goal

pub returns : goal.returns
returns c =
    let room : length c.args.rows.now.items + 1 < 2 ^ 32 = omega arith in
    added c.args.rows.now.items c.push.new.self.items c.args.row c.len-2.result c.requires.rows c.requires.row room c.in_ok-push.ensures.items (omega (arith, c.len-2.ensures))
