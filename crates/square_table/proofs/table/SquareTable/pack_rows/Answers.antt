use Rattle.std.proofs.Common.{rules, ◌-◌}
use Rattle.square_table.proofs.Packing.{level_suc, root_new, rows_packed}
use Rattle.square_table.proofs.table.SquareTable.pack_rows.Goals as goal

pub complete-requires-clause-new : goal.complete-requires-clause-new
complete-requires-clause-new c = search (rules, root_new, level_suc)

pub complete-requires-clause-few : goal.complete-requires-clause-few
complete-requires-clause-few c = c.in_ok-kids.ensures.packs.packing.few

pub returns : goal.returns
returns c =
    let root = c.args.root in
    rows_packed c.args.self.now.rows root.level (root.level - 1) root.kids c.in_ok-kids.kids c.in_ok-packed.packed.squares.items c.pack_kids.new.packed.squares.items c.complete.new.squares.items
    (level_suc root.level c.requires.level.0) c.in_ok-packed.ensures.none c.in_ok-kids.ensures.walks c.in_ok-complete.ensures.rows
