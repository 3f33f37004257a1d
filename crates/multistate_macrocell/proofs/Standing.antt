-- Rows, and the numbers of the nodes among them, that stand for the first nodes.
use Rattle.multistate_macrocell.proofs.Names.{Adds, AreKnown, AreNodes, AreQuadrants, AreRows, AreRows-none, CanFollow, Cells, Follows, IsKnown, IsNumber, IsNumber-from, IsNumber-grown, IsTrue, List, Node, Some, SquareRow, [], ap, arith}
use Rattle.multistate_macrocell.proofs.Names.{blank, cases_lt, empty_square, get_or, get_or_append_left, get_or_push, is_child, length, length_push, level_of, nil_from_length, refl, root_level, row_number, slice_get, slice_get-get_or}
use Rattle.multistate_macrocell.proofs.Names.{square_by, square_in, square_in-grown, square_in-none, subst, suc, sym, take, world-none, world-root, world_of_root, world_of_rows, zero, ℕ, ◌++◌, ◌-◌, ◌<◌, ◌∙◌, ◌∷◌, ◌≡◌, ◌≤◌}
use Rattle.macrocell_lines.specs.declared.node.Node.TheVariants.{Square as Quartered, Bitmap as Drawn}
use Rattle.multistate_macrocell.specs.Quadtree.{square_named, square_of, world_of_nodes}
use Rattle.multistate_macrocell.proofs.Adding.{adds-grows}
use Rattle.multistate_macrocell.proofs.Children.{child-earlier, child-is, child-level, follows-at}

-- the row of the node with a number is of its level and stands for its square
pub record HasRow (rows : List SquareRow) (nodes : List Node) (numbers : List ℕ) (k n : ℕ) : Type 0 where
  pub number : IsNumber rows k (row_number numbers n)
  pub names : square_in rows k (row_number numbers n) ≡ square_named nodes k n

-- the first nodes, so many, have rows, of which the last is that of the last of them
pub record Stand (rows : List SquareRow) (nodes : List Node) (numbers : List ℕ) (place : ℕ) : Type 0 where
  pub valid : AreRows rows
  pub count : length numbers ≡ suc place
  pub zero_first : row_number numbers 0 ≡ 0
  pub each : (k n : ℕ) → n ≤ place → IsTrue (is_child nodes (suc (suc k)) n) → HasRow rows nodes numbers (suc k) n
  pub last : row_number numbers place ≡ length rows
  pub root : (node : Node) → 0 < place → slice_get nodes (place - 1) ≡ Some node → root_level rows ≡ level_of node

pub named-none : (nodes : List Node) (k : ℕ) → square_named nodes (suc k) 0 ≡ empty_square (suc k)
unfolding square_named
named-none nodes k = refl

none-number : (k : ℕ) → IsNumber [] (suc k) 0
none-number k = IsNumber-from [] k 0 (λ live. absurd (omega (arith, live)))

-- nothing stands for no nodes
pub stand-none : (nodes : List Node) → Stand [] nodes (0 ∷ []) 0
stand-none nodes = record {
  valid = AreRows-none;
  count = refl;
  zero_first = refl;
  each = λ k n h is. let number = none-number k in grind (arith, square_in-none [] (suc k), named-none nodes k);
  last = refl;
  root = λ node h at. absurd (omega (arith, h));
}

-- a quadrant of the next node has a row
quadrant_has : (rows : List SquareRow) (nodes : List Node) (numbers : List ℕ) (place k level n : ℕ) → Stand rows nodes numbers place → level ≡ suc (suc k) → IsTrue (is_child (take place nodes) level n) → HasRow rows nodes numbers (suc k) n
quadrant_has rows nodes numbers place k level n stand e h =
    let is = child-earlier nodes place level n h in
    stand.each k n is.earlier (subst (λ l. IsTrue (is_child nodes l n)) e is.child)

quadrant_known : (rows : List SquareRow) (nodes : List Node) (numbers : List ℕ) (place level n : ℕ) → Stand rows nodes numbers place → 2 ≤ level → IsTrue (is_child (take place nodes) level n) → IsKnown rows numbers (level - 1) n
quadrant_known rows nodes numbers place level n stand low h =
    let is = child-earlier nodes place level n h in
    let has = quadrant_has rows nodes numbers place (level - 2) level n stand (omega arith) h in
    record { there = omega (arith, is.earlier, stand.count); number = grind (arith, has.number) }

quadrants_known : (rows : List SquareRow) (nodes : List Node) (numbers : List ℕ) (place level a b c d : ℕ) → Stand rows nodes numbers place → AreQuadrants (take place nodes) level a b c d → AreKnown rows numbers level a b c d
quadrants_known rows nodes numbers place level a b c d stand h = grind (arith, quadrant_known rows nodes numbers place level)

can_follow : (rows : List SquareRow) (nodes : List Node) (numbers : List ℕ) (place : ℕ) (node : Node) → Stand rows nodes numbers place → Follows (take place nodes) node → CanFollow rows numbers node
can_follow rows nodes numbers place node stand h = grind (arith, quadrants_known rows nodes numbers place)

-- the next node may become a row
pub next-follows : (rows : List SquareRow) (nodes : List Node) (numbers : List ℕ) (place : ℕ) (node : Node) → AreNodes nodes → Stand rows nodes numbers place → slice_get nodes place ≡ Some node → CanFollow rows numbers node
next-follows rows nodes numbers place node are stand at = can_follow rows nodes numbers place node stand (follows-at [] nodes place node are.each at)

-- the square of the next node, by rows and by nodes
square_is : (rows : List SquareRow) (nodes : List Node) (numbers : List ℕ) (place k : ℕ) (node : Node) → Stand rows nodes numbers place
    → Follows (take place nodes) node → level_of node ≡ suc k → square_by rows numbers node ≡ square_of (square_named nodes k) node
unfolding square_of
square_is rows nodes numbers place k (Cells a b c d) stand h e = refl
square_is rows nodes numbers place zero (Quartered level a b c d) stand h e = absurd (let low = h.low in omega arith)
square_is rows nodes numbers place (suc j) (Quartered level a b c d) stand h e =
    let less : level - 1 ≡ suc j = omega arith in
    let nw = (quadrant_has rows nodes numbers place j level a stand e h.nw_child).names in
    let ne = (quadrant_has rows nodes numbers place j level b stand e h.ne_child).names in
    let sw = (quadrant_has rows nodes numbers place j level c stand e h.sw_child).names in
    let se = (quadrant_has rows nodes numbers place j level d stand e h.se_child).names in
    cc
square_is rows nodes numbers place k (Drawn bitmap) stand h e = refl

pub level_live : (nodes : List Node) (node : Node) → Follows nodes node → 0 < level_of node
level_live nodes node h = grind arith

pub named-node : (nodes : List Node) (k i : ℕ) (node : Node) → slice_get nodes i ≡ Some node → square_named nodes (suc k) (suc i) ≡ square_of (square_named nodes k) node
unfolding square_named
named-node nodes k i node at = rw at refl

-- the rows with those of the next node
module _ (rows new : List SquareRow) (nodes : List Node) (numbers : List ℕ) (place n : ℕ) (node : Node) (are : AreNodes nodes)
    (stand : Stand rows nodes numbers place) (at : slice_get nodes place ≡ Some node)
    (adds : Adds rows new (level_of node) n (square_by rows numbers node)) where
  follows : Follows (take place nodes) node
  follows = follows-at [] nodes place node are.each at

  all : List ℕ
  all = numbers ++ n ∷ []

  here : row_number all (suc place) ≡ n
  unfolding all
  here = get_or_push numbers n 0 (suc place) stand.count

  stays : (m : ℕ) → m ≤ place → row_number all m ≡ row_number numbers m
  unfolding all
  stays m h = let count = stand.count in get_or_append_left numbers (n ∷ []) 0 m (omega arith)

  old_has : (k m : ℕ) → m ≤ place → IsTrue (is_child nodes (suc (suc k)) m) → HasRow new nodes all (suc k) m
  old_has k m h is =
      let has = stand.each k m h is in
      let grows = adds-grows rows new (level_of node) n (square_by rows numbers node) adds in
      grind (arith, stays m, IsNumber-grown rows new (suc k) (row_number numbers m) grows, square_in-grown rows new (suc k) (row_number numbers m) grows stand.valid)

  new_has : (k : ℕ) → IsTrue (is_child nodes (suc (suc k)) (suc place)) → HasRow new nodes all (suc k) (suc place)
  new_has k is =
      let level : level_of node ≡ suc k = omega (arith, child-level nodes (suc (suc k)) place node at is) in
      grind (arith, here, adds.number, adds.names, square_is rows nodes numbers place k node stand follows level, named-node nodes k place node at)

  each_has : (k m : ℕ) → m ≤ suc place → IsTrue (is_child nodes (suc (suc k)) m) → HasRow new nodes all (suc k) m
  each_has k m h is = grind (arith, cases_lt m (suc place), old_has k m, new_has k)

  pub stand-more : Stand new nodes (numbers ++ n ∷ []) (suc place)
  unfolding all
  stand-more = record {
    valid = adds.valid;
    count = let count = stand.count in omega (arith, length_push numbers n);
    zero_first = stays 0 (omega arith) ∙ stand.zero_first;
    each = each_has;
    last = here ∙ adds.last (level_live (take place nodes) node follows);
    root = λ other h is. grind (arith, adds.root (level_live (take place nodes) node follows));
  }

pub world-nodes-none : world_of_nodes [] ≡ blank
unfolding world_of_nodes
world-nodes-none = refl

pub world-nodes-root : (nodes : List Node) (root : Node) → slice_get nodes (length nodes - 1) ≡ Some root → world_of_nodes nodes ≡ world_of_root nodes (level_of root) (length nodes)
unfolding world_of_nodes
world-nodes-root nodes root at = rw at refl

root_stands : (rows : List SquareRow) (nodes : List Node) (numbers : List ℕ) (root : Node) (i k : ℕ) → Stand rows nodes numbers (length nodes)
    → length nodes ≡ suc i → slice_get nodes i ≡ Some root → level_of root ≡ suc k → world_of_rows rows ≡ world_of_nodes nodes
root_stands rows nodes numbers root i k stand long at level =
    let here : slice_get nodes (length nodes - 1) ≡ Some root = grind arith in
    let child = child-is nodes (suc (suc k)) i root at (omega (arith, level)) in
    let has = stand.each k (length nodes) (omega arith) (rw long child) in
    grind (arith, world-root rows, world-nodes-root nodes root here, has.names, stand.last, stand.root root (omega arith) here)

-- what stands for all nodes stands for their world
pub stand-world : (rows : List SquareRow) (nodes : List Node) (numbers : List ℕ) → AreNodes nodes → Stand rows nodes numbers (length nodes) → world_of_rows rows ≡ world_of_nodes nodes
stand-world rows [] numbers are stand =
    let none : rows ≡ [] = nil_from_length rows (sym stand.last ∙ stand.zero_first) in
    ap world_of_rows none ∙ world-none ∙ sym world-nodes-none
stand-world rows (first ∷ others) numbers are stand =
    let nodes : List Node = first ∷ others in
    let root = get_or nodes (length others) first in
    let at : slice_get nodes (length others) ≡ Some root = slice_get-get_or nodes (length others) first (omega arith) in
    let live = level_live (take (length others) nodes) root (follows-at [] nodes (length others) root are.each at) in
    let level : level_of root ≡ suc (level_of root - 1) = omega (arith, live) in
    root_stands rows nodes numbers root (length others) (level_of root - 1) stand refl at level
