use Rattle.std.proofs.Common.{arith}
use Rattle.plane_core.proofs.Bands.{band_row, kids_are}
use Rattle.plane_core.proofs.edges.kids_of.Goals as goal

pub bounds-rows-number : goal.bounds-rows-number
bounds-rows-number c = band_row c.args.rows.now c.args.level c.args.band.now c.loop-number.number-index c.requires.band.1 c.requires.band.0 (omega arith)

pub returns : goal.returns
returns c = kids_are _ _ _ _ _ c.loop-number.number-index (omega arith) c.loop-number.invariant c.thin.ensures.keeps c.thin.ensures.adds_none
