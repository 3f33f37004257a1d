use Rattle.square_patches.proofs.Names.{AreLaidAs, [], arith, in_corner, in_middle, quadtree, quadtree_of_four, subst, ◌-◌, ◌<◌, ◌∷◌, ◌≡◌}
use Rattle.square_table.proofs.Shared.Growth.{Grows-then, IsNumber-grows}
use Rattle.square_patches.proofs.Laid.{in_turn}
use Rattle.square_patches.proofs.laying.lay_corners.Goals as goal

pub lay_corner-requires-2-clause-number : goal.lay_corner-requires-2-clause-number
lay_corner-requires-2-clause-number g c = grind (arith, IsNumber-grows)

pub lay_corner-requires-3-clause-number : goal.lay_corner-requires-3-clause-number
lay_corner-requires-3-clause-number g c = grind (arith, Grows-then, IsNumber-grows)

pub lay_corner-requires-4-clause-number : goal.lay_corner-requires-4-clause-number
lay_corner-requires-4-clause-number g c = grind (arith, Grows-then, IsNumber-grows)

pub returns-clause-laid : goal.returns-clause-laid
returns-clause-laid g c =
    let four = c.args.four.now in
    let d = c.args.level - 1 - (c.args.tree_level - 1) in
    let low : 0 < c.args.tree_level = c.requires.levels.0.0 in
    let same : d ≡ c.args.level - c.args.tree_level = omega (arith, low, c.requires.levels.1) in
    subst (λ e. AreLaidAs (in_middle e (quadtree_of_four four)) c.args.table.now.rows (c.args.level - 1) c.args.kids c.lay_corner-4.new.table.rows (c.in_ok-nw.nw ∷ c.in_ok-ne.ne ∷ c.in_ok-sw.sw ∷ c.in_ok-se.se ∷ [])) same
    (in_turn (in_corner 3 d (quadtree four.nw)) (in_corner 2 d (quadtree four.ne)) (in_corner 1 d (quadtree four.sw)) (in_corner 0 d (quadtree four.se))
    c.args.table.now c.lay_corner.new.table c.lay_corner-2.new.table c.lay_corner-3.new.table c.lay_corner-4.new.table (c.args.level - 1) c.args.kids c.in_ok-nw.nw c.in_ok-ne.ne c.in_ok-sw.sw c.in_ok-se.se
    c.requires.kids c.in_ok-nw.ensures.grows c.in_ok-ne.ensures.grows c.in_ok-sw.ensures.grows c.in_ok-se.ensures.grows
    c.in_ok-nw.ensures.laid c.in_ok-ne.ensures.laid c.in_ok-sw.ensures.laid c.in_ok-se.ensures.laid)
