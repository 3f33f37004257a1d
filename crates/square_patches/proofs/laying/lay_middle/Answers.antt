use Rattle.square_patches.proofs.Names.{HasLevel, IsLaidAs, arith, cell, first_number, in_corner, in_middle, in_quadrant, length, lit<, quadtree, rules, subst, suc, sym, ◌-◌, ◌<◌, ◌≡◌}
use Rattle.square_patches.proofs.Laid.{joined-laid, laid-cell, laid-quadrant, quadrants_of}
use Rattle.square_patches.proofs.Middles.{middle_cell, middle_zero}
use Rattle.square_patches.proofs.laying.lay_middle.Goals as goal

pub returns-then-level-eq0-clause-laid : goal.returns-then-level-eq0-clause-laid
returns-then-level-eq0-clause-laid g c =
    let rows = c.args.table.now.rows in
    let same : quadtree c.args.tree.now ≡ cell c.from.result = search rules in
    let few : c.from.result < first_number = search rules in
    let none : c.args.level - c.args.tree_level ≡ 0 = omega (arith, c.if-level-eq0.true) in
    subst (λ t. IsLaidAs t rows c.args.level c.args.number rows c.from.result) (sym (middle_zero (quadtree c.args.tree.now) c.from.result (c.args.level - c.args.tree_level) same none))
    (laid-cell rows rows c.args.level c.args.number c.from.result c.if-level-eq0.true few)

pub lay_corner-requires-clause-number : goal.lay_corner-requires-clause-number
lay_corner-requires-clause-number g c =
    let numbers = quadrants_of c.args.table.now.rows c.args.level (c.args.level - 1) c.args.number c.quadrants-kids.result (omega (arith, c.if-level-eq0.false)) c.requires.number c.quadrants-kids.ensures in
    (numbers.se, lit< tt)

pub lay_corners-requires-clause-kids : goal.lay_corners-requires-clause-kids
lay_corners-requires-clause-kids g c =
    let some : 0 < c.args.tree_level = search rules in
    quadrants_of c.args.table.now.rows c.args.level (c.args.level - 1) c.args.number c.quadrants.result (omega (arith, some, c.requires.levels.1)) c.requires.number c.quadrants.ensures

pub returns-in_ok-kids-in-Cell-clause-laid : goal.returns-in_ok-kids-in-Cell-clause-laid
returns-in_ok-kids-in-Cell-clause-laid g c =
    let tree = quadtree c.args.tree.now in
    let up = c.args.level - 1 - c.args.tree_level in
    let inner = in_corner 0 up tree in
    let one : tree ≡ cell c.in-Cell.state = search rules in
    let level : c.args.tree_level ≡ 0 = subst (HasLevel c.args.tree_level) one c.requires.levels.0 in
    let more : c.args.level - c.args.tree_level ≡ suc up = omega (arith, level, c.if-level-eq0.false) in
    let numbers = quadrants_of c.args.table.now.rows c.args.level (c.args.level - 1) c.args.number c.quadrants-kids.result (omega (arith, c.if-level-eq0.false)) c.requires.number c.quadrants-kids.ensures in
    let size : length c.quadrants-kids.result ≡ 4 = search rules in
    joined-laid c.join_numbers.result (in_quadrant 3 inner) (in_middle (c.args.level - c.args.tree_level) tree) c.args.table.now c.lay_corner.new.table c.join_numbers.new.self c.args.level c.args.number c.quadrants-kids.result _
    (omega (arith, c.if-level-eq0.false)) (middle_cell tree c.in-Cell.state (c.args.level - c.args.tree_level) up one more) c.quadrants-kids.ensures
    (laid-quadrant inner c.args.table.now c.lay_corner.new.table (c.args.level - 1) 3 _ c.quadrants-kids.result (lit< tt) size numbers c.in_ok-kids-in-Cell.ensures.grows c.in_ok-kids-in-Cell.ensures.laid)
    c.join_numbers.ensures.grows c.join_numbers.ensures.square

pub returns-in_ok-kids-in-Quad-clause-laid : goal.returns-in_ok-kids-in-Quad-clause-laid
returns-in_ok-kids-in-Quad-clause-laid g c = grind (arith, joined-laid)
