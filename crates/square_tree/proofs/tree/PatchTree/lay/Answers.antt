use Rattle.square_tree.proofs.Shared.Quarters.{aligned_cell}
use Rattle.square_tree.proofs.tree.PatchTree.lay.Goals as goal

pub lay_at-requires-clause-place : goal.lay_at-requires-clause-place
lay_at-requires-clause-place g c =
    let single = rw c.in-Cell.is at c.requires.other in
    let aligned = aligned_cell c.args.level c.args.other_level single.0 in
    rw c.side-centre.ensures.value (aligned, aligned)
