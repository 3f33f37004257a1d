use Rattle.std.proofs.Common.{◌≡◌, ◌*◌, ◌^◌, ◌%◌, ◌≤◌, lit<, arith, shl_exact, pow_mono}
use Rattle.step_engine.proofs.reach.side.Goals as goal

pub returns-clause-fits : goal.returns-clause-fits
returns-clause-fits c =
    let exact : (1 * 2 ^ c.args.k) % 2 ^ 64 ≡ 1 * 2 ^ c.args.k = shl_exact 1 c.args.k 64 (lit< tt) (omega arith) in
    let small : 2 ^ c.args.k ≤ 2 ^ 61 = pow_mono c.requires in
    omega arith
