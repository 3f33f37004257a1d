use Rattle.multistate_rle.proofs.Names.{arith, distance, on_ok_weaker, rules, zeros, ◌++◌, ◌≡◌}
use Rattle.multistate_rle.proofs.Runs.{way_rows}
use Rattle.multistate_rle.proofs.body.Body.push_way.Goals as goal

pub returns : goal.returns
returns c =
    let rows : c.abs_diff-count.result ≡ distance c.args.y c.args.cell.now.y = search rules in
    let gap : c.abs_diff-2.result ≡ distance c.args.left c.args.cell.now.x = search rules in
    on_ok_weaker c.push_zeros-2.result
    (λ written ts. grind (arith, way_rows, written ts, c.in_ok-push.ensures (zeros c.abs_diff-2.result ++ ts))) c.push_zeros-2.ensures
