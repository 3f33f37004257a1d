use Rattle.step_engine.proofs.Names.{Grows-same, IsCentred, arith, cells_of, level_of, refl, subst, ◌+◌, ◌≡◌, ◌≤◌}
use Rattle.step_engine.proofs.Joins.{padded-centred, AddsRound-padded}
use Rattle.step_engine.proofs.padding.with_room.Goals as goal

pub loop-table-init : goal.loop-table-init
loop-table-init c = record {
  held = c.requires.held;
  level = (c.requires.level.0, c.requires.level.1);
  centred = λ w at. at;
  adds = record { grows = Grows-same c.args.table.now; notes = refl; among = λ w all at start are. are };
}

pub returns-in_err-square-clause-adds : goal.returns-in_err-square-clause-adds
returns-in_err-square-clause-adds c =
    let was = c.loop-table.invariant in
    AddsRound-padded was.level.0 (omega (arith, c.loop-table-test.true, c.level.ensures)) was.centred was.adds c.padded.ensures.adds

pub loop-table-preserved : goal.loop-table-preserved
loop-table-preserved c =
    let was = c.loop-table.invariant in
    let is = c.in_ok-square.ensures.padded in
    let low : level_of c.loop-table.square + 1 ≤ c.args.level = omega (arith, c.loop-table-test.true, c.level.ensures) in
    record {
      held = is.held;
      level = omega (arith, is.level, low);
      centred = λ w at. grind (arith, padded-centred w (level_of c.loop-table.square) (cells_of c.loop-table.table c.loop-table.square), was.centred w at, is.level, is.cells);
      adds = AddsRound-padded was.level.0 low was.centred was.adds c.padded.ensures.adds;
    }

pub returns-clause-widened : goal.returns-clause-widened
returns-clause-widened c =
    let was = c.loop-table.invariant in
    let level : level_of c.loop-table.square ≡ c.args.level = omega (arith, was.level, c.loop-table-test.false, c.level.ensures) in
    record { held = was.held; raised = level; centred = λ w at. subst (λ l. IsCentred w l (cells_of c.loop-table.table c.loop-table.square)) level (was.centred w at) }
