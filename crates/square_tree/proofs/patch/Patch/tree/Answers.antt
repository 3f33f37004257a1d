use Rattle.square_tree.proofs.Names.{Cells, IsTreeOf, quadtree, subst}
use Rattle.square_tree.proofs.Mapped.{tree_of}
use Rattle.square_tree.proofs.patch.Patch.tree.Goals as goal

pub returns : goal.returns
returns g c =
    let tree = quadtree c.self.inside.tree in
    subst (λ (v : Cells). IsTreeOf v v.level tree) c.self.view_is (tree_of c.self.inside.level tree c.self.invariant.1)
