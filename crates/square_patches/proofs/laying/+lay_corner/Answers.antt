use Rattle.square_patches.proofs.Names.{ap, arith, in_corner, in_quadrant, length, quadtree, rules, suc, ◌-◌, ◌<◌, ◌≡◌}
use Rattle.square_patches.proofs.Laid.{joined-laid, laid-quadrant, number_at, quadrants_of}
use Rattle.square_patches.proofs.laying.+lay_corner.Goals as goal

pub lay_corner-requires : goal.lay_corner-requires
lay_corner-requires g t c κs within = grind (arith, quadrants_of, number_at)

pub returns-clause-laid : goal.returns-clause-laid
returns-clause-laid g t c =
    let low : 0 < c.args.level = omega (arith, c.if-level-tree_level.false, c.requires.levels.1) in
    let up : c.args.level - c.args.tree_level ≡ suc (c.args.level - 1 - c.args.tree_level) = omega (arith, c.if-level-tree_level.false, c.requires.levels.1) in
    let tree = quadtree c.args.tree.now in
    let inner = in_corner c.args.corner (c.args.level - 1 - c.args.tree_level) tree in
    let numbers = quadrants_of c.args.table.now.rows c.args.level (c.args.level - 1) c.args.number c.quadrants-kids.result (omega (arith, low)) c.requires.number.0 c.quadrants-kids.ensures in
    let size : length c.quadrants-kids.result ≡ 4 = search rules in
    joined-laid c.join_numbers.result (in_quadrant c.args.corner inner) (in_corner c.args.corner (c.args.level - c.args.tree_level) tree)
    c.args.table.now c.lay_corner.new.table c.join_numbers.new.self c.args.level c.args.number c.quadrants-kids.result _
    low (ap (λ d. in_corner c.args.corner d tree) up) c.quadrants-kids.ensures
    (laid-quadrant inner c.args.table.now c.lay_corner.new.table (c.args.level - 1) c.args.corner _ c.quadrants-kids.result c.requires.number.1 size numbers c.in_ok-kids.ensures.grows c.in_ok-kids.ensures.laid)
    c.join_numbers.ensures.grows c.join_numbers.ensures.square
