use Rattle.square_patches.proofs.Names.{HasLevel, arith, cell, first_number, quadtree, quadtree_of_four, rules, subst, ◌-◌, ◌<◌, ◌≡◌}
use Rattle.square_table.proofs.Shared.Growth.{Grows-then, IsNumber-grows}
use Rattle.square_patches.proofs.Laid.{in_turn, joined-laid, laid-state, quadrants_of}
use Rattle.square_patches.proofs.laying.+lay.Goals as goal

pub lay_four-lay_tree-requires-2 : goal.lay_four-lay_tree-requires-2
lay_four-lay_tree-requires-2 g t c κs within = grind (arith, IsNumber-grows)

pub lay_four-lay_tree-requires-3 : goal.lay_four-lay_tree-requires-3
lay_four-lay_tree-requires-3 g t c κs within = grind (arith, Grows-then, IsNumber-grows)

pub lay_four-lay_tree-requires-4 : goal.lay_four-lay_tree-requires-4
lay_four-lay_tree-requires-4 g t c κs within = grind (arith, Grows-then, IsNumber-grows)

pub lay_four-returns-clause-laid : goal.lay_four-returns-clause-laid
lay_four-returns-clause-laid g t c =
    in_turn (quadtree c.args.four.now.nw) (quadtree c.args.four.now.ne) (quadtree c.args.four.now.sw) (quadtree c.args.four.now.se)
    c.args.table.now c.lay_tree.new.table c.lay_tree-2.new.table c.lay_tree-3.new.table c.lay_tree-4.new.table (c.args.level - 1) c.args.kids c.in_ok-nw.nw c.in_ok-ne.ne c.in_ok-sw.sw c.in_ok-se.se
    c.requires.kids c.in_ok-nw.ensures.grows c.in_ok-ne.ensures.grows c.in_ok-sw.ensures.grows c.in_ok-se.ensures.grows
    c.in_ok-nw.ensures.laid c.in_ok-ne.ensures.laid c.in_ok-sw.ensures.laid c.in_ok-se.ensures.laid

pub lay_tree-lay_four-requires : goal.lay_tree-lay_four-requires
lay_tree-lay_four-requires g t c κs within =
    let low : 0 < c.args.level = search rules in
    let numbers = quadrants_of c.args.table.now.rows c.args.level (c.args.level - 1) c.args.number c.quadrants.result (omega (arith, low)) c.requires.number c.quadrants.ensures in
    let same : quadtree c.args.tree.now ≡ quadtree_of_four c.deref.result.now = search rules in
    let level = subst (HasLevel c.args.level) same c.requires.level in
    (omega (arith, c.decreases), search (rules, numbers, level))

pub lay_tree-returns-in-Cell-clause-laid : goal.lay_tree-returns-in-Cell-clause-laid
lay_tree-returns-in-Cell-clause-laid g t c =
    let same : quadtree c.args.tree.now ≡ cell c.from.result = search rules in
    let few : c.from.result < first_number = search rules in
    laid-state (quadtree c.args.tree.now) c.args.table.now.rows c.args.table.now.rows c.args.level c.args.number c.from.result same c.requires.level few

pub lay_tree-returns-in_ok-kids-in-Quad-clause-laid : goal.lay_tree-returns-in_ok-kids-in-Quad-clause-laid
lay_tree-returns-in_ok-kids-in-Quad-clause-laid g t c = grind (arith, joined-laid)
