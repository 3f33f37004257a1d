use Rattle.std.proofs.lemmas.Result.{IfOk-weaker}
use Rattle.multistate_macrocell.proofs.NodeRows.{cells-added, cells-asked, cells-row, drawn-added, quartered-added}
use Rattle.multistate_macrocell.proofs.rows.push_node.Goals as goal

pub push_row-requires-clause-row : goal.push_row-requires-clause-row
push_row-requires-clause-row c =
    let at = c.in-Cells in
    let states = cells-asked c.args.rows.now.items c.args.numbers.now c.args.node at.nw at.ne at.sw at.se at.is c.requires.node in
    rw (c.from.ensures, c.from-in-Cells.ensures, c.from-in-Cells-2.ensures, c.from-in-Cells-3.ensures)
    (cells-row c.args.rows.now.items at.nw at.ne at.sw at.se states)

pub returns-in-Cells : goal.returns-in-Cells
returns-in-Cells c =
    let at = c.in-Cells in
    IfOk-weaker c.push_row.result _ _
    (λ n adds. cells-added c.args.rows.now.items c.push_row.new.rows.items c.args.numbers.now c.args.node at.nw at.ne at.sw at.se n at.is
    (rw (c.from.ensures, c.from-in-Cells.ensures, c.from-in-Cells-2.ensures, c.from-in-Cells-3.ensures) at adds))
    c.push_row.ensures

pub returns-in-Square : goal.returns-in-Square
returns-in-Square c =
    let at = c.in-Square in
    IfOk-weaker c.push_row-in-Square.result _ _
    (λ n adds. quartered-added c.args.rows.now.items c.push_row-in-Square.new.rows.items c.args.numbers.now c.args.node at.level at.nw at.ne at.sw at.se n at.is adds)
    c.push_row-in-Square.ensures

pub returns-in-Bitmap : goal.returns-in-Bitmap
returns-in-Bitmap c =
    IfOk-weaker c.push_bitmap.result _ _
    (λ n adds. drawn-added c.args.rows.now.items c.push_bitmap.new.rows.items c.args.numbers.now c.args.node c.in-Bitmap.bitmap n c.in-Bitmap.is adds)
    c.push_bitmap.ensures
