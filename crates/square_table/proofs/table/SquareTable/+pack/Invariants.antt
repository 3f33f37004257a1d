use Rattle.std.proofs.Common.{◌+◌, ◌*◌}
use Rattle.square_table.proofs.table.SquareTable.+pack.Given as goal

abbrev pub decreases-pack_kids : goal.decreases-pack_kids
decreases-pack_kids l = 3 * l.level + 2

abbrev pub decreases-pack_square : goal.decreases-pack_square
decreases-pack_square l = 3 * l.level + 1

abbrev pub decreases-pack_new : goal.decreases-pack_new
decreases-pack_new l = 3 * l.level
