use Rattle.multistate_rle.proofs.Names.{[], arith, length, on_ok_weaker, ◌∷◌, ◌≤◌}
use Rattle.multistate_rle.specs.declared.token.Token.TheVariants.{End}
use Rattle.multistate_rle.proofs.Runs.{cells_done}
use Rattle.multistate_rle.proofs.body.Body.push_rest.Goals as goal

pub returns : goal.returns
returns c =
    let body = c.loop-cell.self in
    let done : length c.args.cells.now ≤ c.loop-cell.cell-index = omega arith in
    on_ok_weaker c.push-2.result (λ written. grind (arith, cells_done, written [], c.in_ok-push.ensures (End ∷ []))) c.push-2.ensures
