use Rattle.square_tree.proofs.Names.{Cells, ap, place_cmp, ℕ}
use Rattle.std.specs.FinMap as finite
use Rattle.square_tree.proofs.Mapped.{states_of-keep}
use Rattle.square_tree.proofs.patch.Patch.new.Goals as goal

pub returns : goal.returns
returns g c =
    let cells : finite.FinMap place_cmp ℕ → Cells = λ m. record { level = c.args.level; states = m } in
    ap cells (states_of-keep c.args.level)
