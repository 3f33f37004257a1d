-- Nodes that are written as lines read back.
use Rattle.macrocell_lines.proofs.Names.{AllByRecursion, AreQuadrants, AreStates, BadRow, Bitmap, Bool, Cells, EachFollows, Follows, IsDigit, IsLine, IsNumberLine, IsTrue, IsWide, List, MacrocellText, Node, None, Ok, Option, Some, Square}
use Rattle.macrocell_lines.proofs.Names.{[], after_line, after_lines, ap, append-nil, append_assoc, arith, check_room, cond, differs, digit-test, false, five_numbers, is_child, length, length-append, level_of, map, nat_le, nat_lt}
use Rattle.macrocell_lines.proofs.Names.{nat_tests, node_line, node_of, numbers-line, numbers-start, numbers_line, ok_or, option_map_or, quartered, refl, slice_get, sym, true, ℕ, ◌++◌, ◌+◌, ◌-◌, ◌<◌, ◌==◌, ◌>>=◌, ◌^◌, ◌∙◌, ◌∷◌, ◌≡◌, ◌≤◌}
use Rattle.std.proofs.lemmas.Option.{slice_get_within}
use Rattle.macrocell_lines.specs.declared.numbers.FiveNumbers.{FiveNumbers}
use Rattle.macrocell_lines.specs.Headings.{Heading}
use Rattle.macrocell_lines.specs.Quadrants.{leaf_of, child_of, square_of, state_of}
use Rattle.macrocell_lines.proofs.NumberLines.{five-written}
use Rattle.macrocell_lines.proofs.WrittenBitmaps.{bitmap-taken, rows-line}

node_of-digit : (number : ℕ) (nodes : List Node) (b : ℕ) (bs : List ℕ) → IsDigit b → node_of number nodes (b ∷ bs) ≡ (ok_or (five_numbers (b ∷ bs)) (BadRow number) >>= λ said. quartered number nodes said)
node_of-digit number nodes b bs h = rw (digit-test b h) refl

after_line-digit : (number : ℕ) (said : MacrocellText) (b : ℕ) (bs : List ℕ) → IsDigit b → after_line number said (b ∷ bs) ≡ (node_of number said.nodes (b ∷ bs) >>= λ node. Ok (record said { nodes = said.nodes ++ node ∷ [] }))
after_line-digit number said b bs h =
    let low : 48 ≤ b = h.0 in
    rw (differs b 35 (λ e. omega arith)) refl

-- a line of five numbers is taken as the node that these say
line-taken : (number : ℕ) (said : MacrocellText) (line : List ℕ) (five : FiveNumbers) (node : Node) → IsNumberLine line
    → five_numbers line ≡ Some five → quartered number said.nodes five ≡ Ok node
    → after_line number said line ≡ Ok (record said { nodes = said.nodes ++ node ∷ [] })
line-taken number said line five node starts is taken =
    ap (after_line number said) starts.is
    ∙ after_line-digit number said starts.digit starts.rest starts.is_digit
    ∙ ap (λ read. read >>= λ node. Ok (record said { nodes = said.nodes ++ node ∷ [] }))
    (node_of-digit number said.nodes starts.digit starts.rest starts.is_digit
    ∙ ap (λ line. ok_or (five_numbers line) (BadRow number) >>= λ said'. quartered number said.nodes said') (sym starts.is)
    ∙ ap (λ five. ok_or five (BadRow number) >>= λ said'. quartered number said.nodes said') is
    ∙ taken)

state_of-below : (n : ℕ) → n < 256 → state_of n ≡ Some n
state_of-below n h = let below : nat_lt n 256 ≡ true = grind (arith, nat_tests) in ap (λ v. cond v (Some n) None) below

room-left : (nodes : List Node) → length nodes < 16777216 → check_room nodes ≡ Ok tt
room-left nodes h = let below : nat_lt (length nodes) 16777216 ≡ true = grind (arith, nat_tests) in rw below refl

leaf_of-states : (level nw ne sw se : ℕ) → AreStates nw ne sw se → leaf_of (record { level = level; nw = nw; ne = ne; sw = sw; se = se }) ≡ Some (Cells nw ne sw se)
leaf_of-states level nw ne sw se h =
    rw (state_of-below nw h.nw_state) (rw (state_of-below ne h.ne_state) (rw (state_of-below sw h.sw_state) (rw (state_of-below se h.se_state) refl)))

quartered-cells : (number : ℕ) (nodes : List Node) (nw ne sw se : ℕ) → AreStates nw ne sw se → length nodes < 16777216 → quartered number nodes (record { level = 1; nw = nw; ne = ne; sw = sw; se = se }) ≡ Ok (Cells nw ne sw se)
quartered-cells number nodes nw ne sw se h room =
    rw (leaf_of-states 1 nw ne sw se h) (rw (room-left nodes room) refl)

child_of-child : (nodes : List Node) (level n : ℕ) → IsTrue (is_child nodes level n) → child_of nodes level n ≡ Some n
child_of-child nodes level n h = ap (λ v. cond v (Some n) None) h

square_of-quadrants : (nodes : List Node) (level nw ne sw se : ℕ) → AreQuadrants nodes level nw ne sw se → square_of nodes level (record { level = level; nw = nw; ne = ne; sw = sw; se = se }) ≡ Some (Square level nw ne sw se)
square_of-quadrants nodes level nw ne sw se h =
    rw (child_of-child nodes level nw h.nw_child) (rw (child_of-child nodes level ne h.ne_child) (rw (child_of-child nodes level sw h.sw_child) (rw (child_of-child nodes level se h.se_child) refl)))

quartered-square : (number : ℕ) (nodes : List Node) (level nw ne sw se : ℕ) → AreQuadrants nodes level nw ne sw se → length nodes < 16777216
    → quartered number nodes (record { level = level; nw = nw; ne = ne; sw = sw; se = se }) ≡ Ok (Square level nw ne sw se)
quartered-square number nodes level nw ne sw se h room =
    let low = h.low in
    let high = h.high in
    let not_zero : (level == 0) ≡ false = differs level 0 (λ e. omega arith) in
    let not_one : (level == 1) ≡ false = differs level 1 (λ e. omega arith) in
    let inside : nat_le level 62 ≡ true = grind (arith, nat_tests) in
    rw not_zero (rw not_one (rw inside (rw (room-left nodes room) (rw (square_of-quadrants nodes level nw ne sw se h) refl))))

some_node : (level : ℕ) (read : Option Node) → option_map_or (λ node. level_of node + 1 == level) read false ≡ true → (node : Node) × (read ≡ Some node)
some_node level None h = absurd (cc)
some_node level (Some node) h = (node, refl)

zero_or : (b : Bool) (P : Type 0) (rest : Bool) → (b ≡ true → P) → (rest ≡ true → P) → cond b true rest ≡ true → P
zero_or true P rest here behind h = here refl
zero_or false P rest here behind h = behind h

-- the number of a node is written in full
child-wide : (nodes : List Node) (level n : ℕ) → length nodes ≤ 16777216 → IsTrue (is_child nodes level n) → n < 2 ^ 64
child-wide nodes level n few h =
    zero_or (n == 0) (n < 2 ^ 64) (option_map_or (λ node. level_of node + 1 == level) (slice_get nodes (n - 1)) false)
    (λ is. let zero : n ≡ 0 = grind (arith, nat_tests) in omega arith)
    (λ is. let found = some_node level (slice_get nodes (n - 1)) is in
    let within : n - 1 < length nodes = slice_get_within nodes (n - 1) found.0 found.1 in
    omega arith)
    h

cells-wide : (nw ne sw se : ℕ) → AreStates nw ne sw se → AllByRecursion IsWide (1 ∷ nw ∷ ne ∷ sw ∷ se ∷ [])
cells-wide nw ne sw se h =
    let a = h.nw_state in
    let b = h.ne_state in
    let c = h.sw_state in
    let d = h.se_state in
    (omega arith, (omega arith, (omega arith, (omega arith, (omega arith, tt)))))

square-wide : (nodes : List Node) (level nw ne sw se : ℕ) → length nodes ≤ 16777216 → AreQuadrants nodes level nw ne sw se → AllByRecursion IsWide (level ∷ nw ∷ ne ∷ sw ∷ se ∷ [])
square-wide nodes level nw ne sw se few h =
    let high = h.high in
    (omega arith, (child-wide nodes level nw few h.nw_child, (child-wide nodes level ne few h.ne_child, (child-wide nodes level sw few h.sw_child, (child-wide nodes level se few h.se_child, tt)))))

-- a node that is written reads back
node-taken : (number : ℕ) (said : MacrocellText) (node : Node) → length said.nodes < 16777216 → Follows said.nodes node → after_line number said (node_line node) ≡ Ok (record said { nodes = said.nodes ++ node ∷ [] })
node-taken number said (Cells nw ne sw se) room h =
    let wide = cells-wide nw ne sw se h in
    line-taken number said (numbers_line (1 ∷ nw ∷ ne ∷ sw ∷ se ∷ [])) (record { level = 1; nw = nw; ne = ne; sw = sw; se = se }) (Cells nw ne sw se)
    (numbers-start 1 (nw ∷ ne ∷ sw ∷ se ∷ []) wide)
    (five-written 1 nw ne sw se wide)
    (quartered-cells number said.nodes nw ne sw se h room)
node-taken number said (Square level nw ne sw se) room h =
    let wide = square-wide said.nodes level nw ne sw se (omega arith) h in
    line-taken number said (numbers_line (level ∷ nw ∷ ne ∷ sw ∷ se ∷ [])) (record { level = level; nw = nw; ne = ne; sw = sw; se = se }) (Square level nw ne sw se)
    (numbers-start level (nw ∷ ne ∷ sw ∷ se ∷ []) wide)
    (five-written level nw ne sw se wide)
    (quartered-square number said.nodes level nw ne sw se h room)
node-taken number said (Bitmap bitmap) room h = bitmap-taken number said bitmap room h

-- so do all
pub nodes-taken : (number : ℕ) (heading : Heading) (nodes others : List Node) → length nodes + length others ≤ 16777216 → EachFollows nodes others
    → after_lines number (record { heading = heading; nodes = nodes }) (map node_line others) ≡ Ok
    (record { heading = heading; nodes = nodes ++ others })
nodes-taken number heading nodes [] few h = ap (λ nodes. Ok (record { heading = heading; nodes = nodes })) (sym (append-nil nodes))
nodes-taken number heading nodes (node ∷ others) few h =
    ap (λ read. read >>= λ more. after_lines (number + 1) more (map node_line others)) (node-taken number (record { heading = heading; nodes = nodes }) node (omega arith) h.0)
    ∙ nodes-taken (number + 1) heading (nodes ++ node ∷ []) others (omega (arith, length-append nodes (node ∷ []))) h.1
    ∙ ap (λ nodes. Ok (record { heading = heading; nodes = nodes })) (append_assoc nodes (node ∷ []) others)

node-line : (nodes : List Node) (node : Node) → length nodes ≤ 16777216 → Follows nodes node → IsLine (node_line node)
node-line nodes (Cells nw ne sw se) few h = numbers-line 1 (nw ∷ ne ∷ sw ∷ se ∷ []) (cells-wide nw ne sw se h)
node-line nodes (Square level nw ne sw se) few h = numbers-line level (nw ∷ ne ∷ sw ∷ se ∷ []) (square-wide nodes level nw ne sw se few h)
node-line nodes (Bitmap bitmap) few h = rows-line bitmap.rows h

-- each node is written as a line
pub node-lines : (nodes others : List Node) → length nodes + length others ≤ 16777216 → EachFollows nodes others → AllByRecursion IsLine (map node_line others)
node-lines nodes [] few h = tt
node-lines nodes (node ∷ others) few h =
    (node-line nodes node (omega arith) h.0, node-lines (nodes ++ node ∷ []) others (omega (arith, length-append nodes (node ∷ []))) h.1)
