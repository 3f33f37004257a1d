use Rattle.macrocell_lines.proofs.Names.{arith, common_steps, drop, length, take, ◌-◌, ◌≤◌}
use Rattle.macrocell_lines.proofs.Rows.{byte-below, row_bits-small}
use Rattle.macrocell_lines.proofs.bitmap.+row_bits.Goals as goal

pub overflow_mul-result : goal.overflow_mul-result
overflow_mul-result t c =
    let cells = c.args.cells.now in
    let rest = take (length cells - 1) (drop 1 cells) in
    let short : length rest ≤ 7 = grind (arith, common_steps) in
    let small = row_bits-small rest short in
    omega (arith, small, c.row_bits.ensures)

pub overflow_add-result : goal.overflow_add-result
overflow_add-result t c =
    let cells = c.args.cells.now in
    let rest = take (length cells - 1) (drop 1 cells) in
    let short : length rest ≤ 7 = grind (arith, common_steps) in
    let small = row_bits-small rest short in
    omega (arith, small, c.row_bits.ensures, c.from.ensures, byte-below)
