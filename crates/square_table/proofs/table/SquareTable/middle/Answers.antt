use Rattle.std.proofs.Common.{◌-◌, ◌<◌, arith}
use Rattle.square_table.proofs.Packing.{quadrant_numbers}
use Rattle.square_table.proofs.Shared.Centring.{middle_alike}
use Rattle.square_table.proofs.table.SquareTable.middle.Goals as goal

-- the four that meet in the middle
pub returns-clause-numbers : goal.returns-clause-numbers
returns-clause-numbers c =
    let some : 0 < c.args.whole.level - 1 = omega (arith, c.requires.level) in
    let are = c.requires.numbers in
    record {
      nw = (quadrant_numbers _ _ _ _ some are.nw c.quadrants.ensures).se;
      ne = (quadrant_numbers _ _ _ _ some are.ne c.quadrants-2.ensures).sw;
      sw = (quadrant_numbers _ _ _ _ some are.sw c.quadrants-3.ensures).ne;
      se = (quadrant_numbers _ _ _ _ some are.se c.quadrants-4.ensures).nw;
    }

pub returns-clause-centred : goal.returns-clause-centred
returns-clause-centred c = λ either. middle_alike c.args.self.now.rows c.args.whole _ _ _ _ c.requires.level either c.quadrants.ensures c.quadrants-2.ensures c.quadrants-3.ensures c.quadrants-4.ensures
