use Rattle.plain_steps.proofs.Names.{All, All-push, CellHasRoom, arith, get_or, length, rules, subst, sym, take, take_all, take_more, true, ◌<◌, ◌≡◌}
use Rattle.plain_steps.proofs.room.all_have_room.Goals as goal

pub loop-cell-preserved : goal.loop-cell-preserved
loop-cell-preserved c =
    let cells = c.args.cells.now in
    let i = c.loop-cell.cell-index in
    let P = CellHasRoom c.args.patch.now.level in
    let below : i < length cells = omega arith in
    let yes : c.has_room.result ≡ true = search rules in
    subst (All P) (sym (take_more cells i _ below)) (All-push P (take i cells) (get_or cells i _) c.loop-cell.invariant (c.has_room.ensures.0 yes))

pub returns : goal.returns
returns c = λ _. subst (All (CellHasRoom c.args.patch.now.level)) (take_all c.loop-cell.cell-index c.args.cells.now c.loop-cell-test.false) c.loop-cell.invariant
