use Rattle.std.proofs.Common.{◌∙◌}
use Rattle.square_table.proofs.Probing.{finds_row}
use Rattle.square_table.proofs.slots.append.Goals as goal

pub returns-clause-finds : goal.returns-clause-finds
returns-clause-finds c =
    let free = c.requires.free in
    let row = c.new.ensures.row ∙ c.len.ensures ∙ c.push.new.self.ok.0 in
    finds_row c.args.rows.now.items c.push.new.self.items c.args.row c.args.slots.now c.args.mark c.args.free c.new.result c.requires.finds free.1 free.0 c.in_ok-push.ensures.items row c.new.ensures.tag
