-- Rows that are written as nodes stand for the same.
use Rattle.multistate_macrocell.proofs.Names.{AreNodes, AreQuadrants, AreRows, AreStates, Cells, EachFollows, Follows, IsNumber, IsNumber-level, IsRow, IsTrue, List, Node, Ok, Some, Square, SquareRow, WrittenMeansTheSame, [], ap}
use Rattle.multistate_macrocell.proofs.Names.{append_assoc, arith, cond, eq-eqb, eqb_tells, four, get_or, inl, inr, is_child, kid, kid_number, length, length-append, length-map, level_of, lit<, map, map-append, nat_tests, ne_eqb, no_row}
use Rattle.multistate_macrocell.proofs.Names.{node_of, nodes_of, option_map, refl, root_level, root_level-some, rooted, row_at, rows_of, slice_get, slice_get-get_or, slice_get-map, square_in, square_in-none, square_in-row, square_in-state}
use Rattle.multistate_macrocell.proofs.Names.{square_named, squares-rows_of, state-IsNumber, subst, suc, sym, take, world-none, world-root, world_of_nodes, world_of_rows, zero, ℕ, ◌++◌, ◌-◌, ◌<◌, ◌∙◌, ◌∷◌, ◌≡◌, ◌≤◌}
use Rattle.basics.specs.Results.{◌>>=◌}
use Rattle.macrocell_lines.specs.declared.node.Node.TheVariants.{Square as Quartered}
use Rattle.macrocell_lines.proofs.Shared.WrittenTexts.{written-says}
use Rattle.multistate_macrocell.specs.Pattern.{said_pattern}
use Rattle.multistate_macrocell.specs.Quadtree.{square_of}
use Rattle.multistate_macrocell.proofs.Children.{child-is}
use Rattle.multistate_macrocell.proofs.Standing.{named-node, named-none, world-nodes-none, world-nodes-root}

-- the node of a row, by its level
node_of-one : (row : SquareRow) → row.level ≡ 1 → node_of row ≡ Cells (kid row 0) (kid row 1) (kid row 2) (kid row 3)
node_of-one row e = ap (λ v. cond v (Cells (kid row 0) (kid row 1) (kid row 2) (kid row 3)) (Quartered row.level (kid row 0) (kid row 1) (kid row 2) (kid row 3))) (eq-eqb row.level 1 e)

node_of-more : (row : SquareRow) → (row.level ≡ 1 → ⊥) → node_of row ≡ Quartered row.level (kid row 0) (kid row 1) (kid row 2) (kid row 3)
node_of-more row e = ap (λ v. cond v (Cells (kid row 0) (kid row 1) (kid row 2) (kid row 3)) (Quartered row.level (kid row 0) (kid row 1) (kid row 2) (kid row 3))) (ne_eqb row.level 1 e)

node_of-level : (row : SquareRow) → level_of (node_of row) ≡ row.level
node_of-level row = grind (arith, nat_tests)

-- the node of the row with a number
node_at : (rows : List SquareRow) (i : ℕ) → i < length rows → slice_get (map node_of rows) i ≡ Some (node_of (get_or rows i no_row))
node_at rows i h = slice_get-map node_of rows i ∙ ap (λ found. option_map node_of found) (slice_get-get_or rows i no_row h)

-- a row with a number has its level
row_level : (rows : List SquareRow) (k i : ℕ) → IsNumber rows (suc k) (suc i) → (i < length rows) × ((get_or rows i no_row).level ≡ suc k)
row_level rows k i h = let at = IsNumber-level rows k (suc i) h (omega arith) in (omega (arith, at.0), grind (arith, at.1))

number-child : (rows : List SquareRow) (k n : ℕ) → IsNumber rows (suc k) n → IsTrue (is_child (map node_of rows) (suc (suc k)) n)
number-child rows k zero h = refl
number-child rows k (suc i) h =
    let at = row_level rows k i h in
    let row = get_or rows i no_row in
    child-is (map node_of rows) (suc (suc k)) i (node_of row) (node_at rows i at.0) (omega (arith, node_of-level row, at.1))

-- a row that may stand after others is a node that follows theirs
cells_follow : (front : List SquareRow) (row : SquareRow) → IsRow front row → row.level ≡ 1 → AreStates (kid row 0) (kid row 1) (kid row 2) (kid row 3)
cells_follow front row is e =
    let ground_level : row.level - 1 ≡ 0 = omega arith in
    let state = λ (q : ℕ) (h : q < 4). state-IsNumber front (kid row q) (subst (λ k. IsNumber front k (kid row q)) ground_level (is.kids q h)) in
    record { nw_state = state 0 (lit< tt); ne_state = state 1 (lit< tt); sw_state = state 2 (lit< tt); se_state = state 3 (lit< tt) }

quadrants_follow : (front : List SquareRow) (row : SquareRow) → IsRow front row → (row.level ≡ 1 → ⊥) → AreQuadrants (map node_of front) row.level (kid row 0) (kid row 1) (kid row 2) (kid row 3)
quadrants_follow front row is other =
    let low : 1 ≤ row.level = is.low in
    let less : row.level - 1 ≡ suc (row.level - 2) = omega arith in
    let more : suc (suc (row.level - 2)) ≡ row.level = omega arith in
    let child = λ (q : ℕ) (h : q < 4). subst (λ l. IsTrue (is_child (map node_of front) l (kid row q))) more (number-child front (row.level - 2) (kid row q) (subst (λ k. IsNumber front k (kid row q)) less (is.kids q h))) in
    record { low = omega arith; high = is.high; nw_child = child 0 (lit< tt); ne_child = child 1 (lit< tt); sw_child = child 2 (lit< tt); se_child = child 3 (lit< tt) }

row-follows : (front : List SquareRow) (row : SquareRow) → IsRow front row → Follows (map node_of front) (node_of row)
row-follows front row is =
    elim (eqb_tells row.level 1) [
      | inl here ↦ subst (Follows (map node_of front)) (sym (node_of-one row here.1)) (cells_follow front row is here.1)
      | inr above ↦ subst (Follows (map node_of front)) (sym (node_of-more row above.1)) (quadrants_follow front row is above.1)
    ]

take_front : (front rest : List SquareRow) → take (length front) (front ++ rest) ≡ front
take_front [] rest = refl
take_front (row ∷ front) rest = ap (λ rows. row ∷ rows) (take_front front rest)

get_front : (front rest : List SquareRow) (row : SquareRow) → get_or (front ++ row ∷ rest) (length front) no_row ≡ row
get_front [] rest row = refl
get_front (first ∷ front) rest row = get_front front rest row

each-follows : (front rest : List SquareRow) → AreRows (front ++ rest) → EachFollows (map node_of front) (map node_of rest)
each-follows front [] valid = tt
each-follows front (row ∷ rest) valid =
    let all : List SquareRow = front ++ row ∷ rest in
    let inside : length front < length all = omega (arith, length-append front (row ∷ rest)) in
    let at : IsRow (take (length front) all) (get_or all (length front) no_row) = valid (length front) inside in
    let is : IsRow front row = subst (λ (r : SquareRow). IsRow front r) (get_front front rest row) (subst (λ (f : List SquareRow). IsRow f (get_or all (length front) no_row)) (take_front front (row ∷ rest)) at) in
    let more = each-follows (front ++ row ∷ []) rest (subst AreRows (sym (append_assoc front (row ∷ []) rest)) valid) in
    (row-follows front row is, subst (λ (ns : List Node). EachFollows ns (map node_of rest)) (map-append node_of front (row ∷ [])) more)

-- the rows of a plane are nodes of a quadtree
pub rows-nodes : (rows : List SquareRow) → AreRows rows → length rows ≤ 16777216 → AreNodes (nodes_of rows)
rows-nodes rows valid few = record { few = omega (arith, length-map rows node_of); each = each-follows [] rows valid }

-- the square of a row of level 1 and of its node
cells_square : (named : ℕ → Square) (rows : List SquareRow) (row : SquareRow) → row.level ≡ 1
    → square_of named (node_of row) ≡ four (square_in rows 0 (kid row 0)) (square_in rows 0 (kid row 1)) (square_in rows 0 (kid row 2)) (square_in rows 0 (kid row 3))
unfolding square_of
cells_square named rows row e = grind (arith, node_of-one row, square_in-state)

-- and of a row of a higher level
quartered_square : (named : ℕ → Square) (row : SquareRow) → (row.level ≡ 1 → ⊥) → square_of named (node_of row) ≡ four (named (kid row 0)) (named (kid row 1)) (named (kid row 2)) (named (kid row 3))
unfolding square_of
quartered_square named row e = grind (arith, node_of-more row)

-- the nodes of rows stand for the same squares
pub named-in : (rows : List SquareRow) (k n : ℕ) → AreRows rows → IsNumber rows (suc k) n → square_named (map node_of rows) (suc k) n ≡ square_in rows (suc k) n
named-in rows k zero valid h = named-none (map node_of rows) k ∙ sym (square_in-none rows (suc k))
named-in rows zero (suc i) valid h =
    let at = row_level rows 0 i h in
    let row = get_or rows i no_row in
    named-node (map node_of rows) 0 i (node_of row) (node_at rows i at.0)
    ∙ cells_square (square_named (map node_of rows) 0) rows row at.1
    ∙ sym (square_in-row rows 0 i)
named-in rows (suc j) (suc i) valid h =
    let at = row_level rows (suc j) i h in
    let row = get_or rows i no_row in
    let level = at.1 in
    let kid_is = λ (q : ℕ) (hq : q < 4). named-in rows j (kid row q) valid (kid_number rows (suc j) i valid at.0 level q hq) in
    named-node (map node_of rows) (suc j) i (node_of row) (node_at rows i at.0)
    ∙ quartered_square (square_named (map node_of rows) (suc j)) row (λ e. omega arith)
    ∙ cc (kid_is 0 (lit< tt), kid_is 1 (lit< tt), kid_is 2 (lit< tt), kid_is 3 (lit< tt))
    ∙ sym (square_in-row rows (suc j) i)

-- and for the same world
pub rows-world : (rows : List SquareRow) → AreRows rows → world_of_nodes (nodes_of rows) ≡ world_of_rows rows
rows-world [] valid = world-nodes-none ∙ sym world-none
rows-world (first ∷ others) valid =
    let rows : List SquareRow = first ∷ others in
    let nodes = map node_of rows in
    let root = rooted rows valid in
    let low : 1 ≤ root_level rows = root.low in
    let long : length nodes ≡ length rows = length-map rows node_of in
    let row = row_at rows (length rows) in
    let inside : length rows - 1 < length rows = omega arith in
    let less : length nodes - 1 ≡ length rows - 1 = omega arith in
    let at : slice_get nodes (length nodes - 1) ≡ Some (node_of row) = ap (slice_get nodes) less ∙ node_at rows (length rows - 1) inside in
    let level : level_of (node_of row) ≡ root_level rows = node_of-level row ∙ sym (root_level-some rows (omega arith)) in
    let k = root_level rows - 1 in
    let up : suc k ≡ root_level rows = omega arith in
    let square = named-in rows k (length rows) valid (grind (arith, root.number)) in
    grind (arith, world-nodes-root nodes (node_of row) at, world-root rows, square)

-- what is written means the same
pub written-means : WrittenMeansTheSame
written-means w name generation margin states few is small =
    let rows = rows_of w in
    let are = squares-rows_of w margin states in
    let valid = are.canonical.valid in
    let world : world_of_nodes (nodes_of rows) ≡ w = rows-world rows valid ∙ are.world in
    ap (λ read. read >>= λ said. Ok (said_pattern said)) (written-says name generation (nodes_of rows) is small (rows-nodes rows valid few))
    ∙ ap (λ v. Ok (record { plane = v; rule_name = name; generation = generation })) world
