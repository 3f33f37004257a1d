-- The cells of the world of nodes.
use Rattle.multistate_macrocell.proofs.Names.{AreNodes, Bitmap, Bool, Cells, Follows, IsSquare, IsTrue, List, Node, NodesShowTheirRoot, ShowsRoot, Some, Square, World, [], arith, blank, cell-blank, cond, edge_of, empty_square, is_child}
use Rattle.multistate_macrocell.proofs.Names.{is_live, length, level_of, pos, put_square, refl, slice_get, slice_get_within, subst, suc, sym, take, world_of_nodes, zero, ℕ, ◌+ℤ◌, ◌+◌, ◌-◌, ◌<◌, ◌^◌, ◌∙◌, ◌≡◌}
use Rattle.macrocell_lines.specs.declared.node.Node.TheVariants.{Square as Quartered, Bitmap as Drawn}
use Rattle.plane_core.proofs.Shared.Cells.{IsSquare-empty, IsSquare-one, IsSquare-parts, put_square-inside, put_square-outside}
use Rattle.multistate_macrocell.specs.Quadtree.{drawn, square_named, square_of}
use Rattle.multistate_macrocell.proofs.Children.{child-earlier, child-found, child-is, child-level, follows-at}
use Rattle.multistate_macrocell.proofs.Standing.{level_live, named-node, named-none, world-nodes-root}

cell_small : (live : Bool) → cond live 1 0 < 256
cell_small live = grind arith

drawn-IsSquare : (bitmap : Bitmap) (k x y : ℕ) → IsSquare k (drawn bitmap k x y)
unfolding drawn
drawn-IsSquare bitmap zero x y = IsSquare-one (cond (is_live bitmap x y) 1 0) (cell_small (is_live bitmap x y))
drawn-IsSquare bitmap (suc k) x y =
    let h = 2 ^ k in
    IsSquare-parts k _ _ _ _ (drawn-IsSquare bitmap k x y) (drawn-IsSquare bitmap k (x + h) y) (drawn-IsSquare bitmap k x (y + h)) (drawn-IsSquare bitmap k (x + h) (y + h))

-- the square of a node, whose quadrants are squares
node_square : (named : ℕ → Square) (front : List Node) (k : ℕ) (node : Node) → Follows front node → level_of node ≡ suc k → ((m : ℕ) → IsTrue (is_child front (suc k) m) → IsSquare k (named m)) → IsSquare (suc k) (square_of named node)
unfolding square_of
node_square named front zero (Cells a b c d) h e each = IsSquare-parts 0 _ _ _ _ (IsSquare-one a h.nw_state) (IsSquare-one b h.ne_state) (IsSquare-one c h.sw_state) (IsSquare-one d h.se_state)
node_square named front (suc k) (Cells a b c d) h e each = absurd (omega (arith, e))
node_square named front k (Quartered level a b c d) h e each =
    let child = λ (m : ℕ) (is : IsTrue (is_child front level m)). each m (subst (λ l. IsTrue (is_child front l m)) e is) in
    IsSquare-parts k _ _ _ _ (child a h.nw_child) (child b h.ne_child) (child c h.sw_child) (child d h.se_child)
node_square named front k (Drawn bitmap) h e each = subst (λ l. IsSquare l (drawn bitmap 3 0 0)) e (drawn-IsSquare bitmap 3 0 0)

named-ground : (nodes : List Node) (n : ℕ) → square_named nodes 0 n ≡ empty_square 0
unfolding square_named
named-ground nodes n = refl

-- the square that a number names is one
named-IsSquare : (nodes : List Node) (k n : ℕ) → AreNodes nodes → IsTrue (is_child nodes (suc (suc k)) n) → IsSquare (suc k) (square_named nodes (suc k) n)
named-IsSquare nodes k zero are h = subst (IsSquare (suc k)) (sym (named-none nodes k)) (IsSquare-empty (suc k))
named-IsSquare nodes zero (suc i) are h =
    let found = child-found nodes 2 i h in
    let level : level_of found.0 ≡ 1 = omega (arith, child-level nodes 2 i found.0 found.1 h) in
    rw (named-node nodes 0 i found.0 found.1)
    (node_square (square_named nodes 0) (take i nodes) 0 found.0 (follows-at [] nodes i found.0 are.each found.1) level
    (λ m is. subst (IsSquare 0) (sym (named-ground nodes m)) (IsSquare-empty 0)))
named-IsSquare nodes (suc j) (suc i) are h =
    let found = child-found nodes (suc (suc (suc j))) i h in
    let level : level_of found.0 ≡ suc (suc j) = omega (arith, child-level nodes (suc (suc (suc j))) i found.0 found.1 h) in
    rw (named-node nodes (suc j) i found.0 found.1)
    (node_square (square_named nodes (suc j)) (take i nodes) (suc j) found.0 (follows-at [] nodes i found.0 are.each found.1) level
    (λ m is. named-IsSquare nodes j m are (child-earlier nodes i (suc (suc j)) m is).child))

shows_root : (w : World) (k : ℕ) (t : Square) → IsSquare k t → w ≡ put_square k t (edge_of k) (edge_of k) blank → ShowsRoot w k t
shows_root w k t is e = record {
  inside = λ i j hi hj. rw e (put_square-inside k t (edge_of k) (edge_of k) blank (edge_of k +ℤ pos i) (edge_of k +ℤ pos j) i j is refl refl hi hj);
  outside = λ x y out. rw e (put_square-outside k t (edge_of k) (edge_of k) blank x y is out ∙ cell-blank x y);
}

root_square : (nodes : List Node) (root : Node) (i k : ℕ) → AreNodes nodes → length nodes ≡ suc i → slice_get nodes i ≡ Some root → level_of root ≡ suc k → IsSquare (level_of root) (square_named nodes (level_of root) (length nodes))
root_square nodes root i k are long at level =
    let is = named-IsSquare nodes k (length nodes) are (rw long (child-is nodes (suc (suc k)) i root at (omega (arith, level)))) in rw level is

-- the world of nodes shows the square of the root
pub nodes-show : NodesShowTheirRoot
nodes-show nodes root are at =
    let i = length nodes - 1 in
    let within : i < length nodes = slice_get_within nodes i root at in
    let long : length nodes ≡ suc i = omega arith in
    let live = level_live (take i nodes) root (follows-at [] nodes i root are.each at) in
    let level : level_of root ≡ suc (level_of root - 1) = omega (arith, live) in
    shows_root (world_of_nodes nodes) (level_of root) (square_named nodes (level_of root) (length nodes)) (root_square nodes root i (level_of root - 1) are long at level) (world-nodes-root nodes root at)
