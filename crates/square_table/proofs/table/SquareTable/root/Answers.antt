use Rattle.square_table.proofs.Packing.{quadrant_numbers}
use Rattle.square_table.proofs.Shared.Centring.{quarters_alike}
use Rattle.square_table.proofs.table.SquareTable.root.Goals as goal

pub loop-root-init : goal.loop-root-init
loop-root-init c =
    let rows = c.args.self.now.rows in
    let s = c.args.square in
    let read = c.requires.held.quadrants c.requires.level in
    record {
      low = c.requires.level;
      numbers = quadrant_numbers rows s.level s.number s.kids.now c.requires.level c.requires.held.numbered read;
      centred = quarters_alike rows s.level s.number s.kids.now c.requires.level read;
    }
