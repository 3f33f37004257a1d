use Rattle.square_tree.proofs.Names.{Cells, ap, arith, ints, least, pos, quadtree, state_at, sym, ◌+ℤ◌, ◌∙◌, ◌≡◌}
use Rattle.square_tree.proofs.Mapped.{get_at}
use Rattle.square_tree.proofs.patch.Patch.get.Goals as goal

pub returns : goal.returns
returns g c =
    let level = c.self.inside.level in
    let column : c.args.x ≡ (least level +ℤ pos c.offset.result) = let e = c.offset.ensures.place in omega (arith, ints, e) in
    let row : c.args.y ≡ (least level +ℤ pos c.offset-2.result) = let e = c.offset-2.ensures.place in omega (arith, ints, e) in
    c.get.ensures
    ∙ sym (get_at level (quadtree c.self.inside.tree) c.args.x c.args.y c.offset.result c.offset-2.result c.self.invariant.1 column row)
    ∙ ap (λ (v : Cells). state_at v c.args.x c.args.y) c.self.view_is
