-- A table that lines say is one for which lines are written.
use Rattle.table_lines.proofs.Names.{TablesOfLinesAreWritten, arith, length, ◌^◌, ◌≤◌}
use Rattle.table_lines.proofs.Shared.SaidTables.{lines-said}

pub said-written : TablesOfLinesAreWritten
said-written lines table short h =
    let is = lines-said lines table h in
    let few : length is.sets ≤ 2 ^ 64 = omega (arith, is.few, short) in
    (is.sets, record { at_least = is.states.0; at_most = is.states.1; symmetry = is.symmetry; few = few; defined = is.defined; transitions = is.transitions })
