use Rattle.decision_tree.proofs.Names.{BadTree, Err, List, Ok, Some, ap, drop, false, get_or, inr, is_next, length, map, numbers_in, option_map, saturated, sym, take, true, words, ℕ, ◌-◌, ◌∙◌, ◌∷◌, ◌≡◌}
use Rattle.decision_tree.proofs.Shared.Growing.{IsNextNode, is_next-node, kept-push}
use Rattle.decision_tree.proofs.Shared.KeptNodes.{first-and-others, nodes_of-push}
use Rattle.decision_tree.proofs.NextNode.{with_kept}
use Rattle.decision_tree.proofs.nodes.read_node.Goals as goal
use Rattle.decision_tree.proofs.nodes.read_node.Goals.{After-is_next, Else-not-is_next}

-- the depth and the entries among a node's numbers
abbrev depth_in : List ℕ → ℕ
depth_in numbers = get_or numbers 0 0

abbrev entries_in : List ℕ → List ℕ
entries_in numbers = take (length numbers - 1) (drop 1 numbers)

-- the numbers that the line says, as they are kept
said : (c : After-is_next) → Some (depth_in c.as_slice.result.now ∷ entries_in c.as_slice.result.now) ≡ option_map (map saturated) (numbers_in (words c.args.line.now.text))
said c =
    let kept : Some c.in-Some.numbers.items ≡ option_map (map saturated) (numbers_in (words c.text.result.now)) = rw c.in-Some.is at c.in_ok-numbers.ensures in
    ap Some (sym (first-and-others c.as_slice.result.now 0 c.in-len1-up.len_at_least) ∙ c.as_slice.ensures.value) ∙ kept ∙ ap
    (λ text. option_map (map saturated) (numbers_in (words text))) c.text.ensures

-- what the test says of them
test : (c : After-is_next)
    → is_next c.args.head c.args.nodes.now.depths.items (record { depth = depth_in c.as_slice.result.now; entries = entries_in c.as_slice.result.now }) ≡ c.is_next.result
test c = rw (← c.deref.ensures.value) (sym c.is_next.ensures)

-- where it holds they are the next node
next : (c : Else-not-is_next) → IsNextNode c.args.head c.args.nodes.now.depths.items (depth_in c.as_slice.result.now) (entries_in c.as_slice.result.now)
next c = is_next-node c.args.head c.args.nodes.now.depths.items (depth_in c.as_slice.result.now) (entries_in c.as_slice.result.now) (test c.before ∙ c.if-not-is_next.false)

pub returns-then-not-is_next-clause-read : goal.returns-then-not-is_next-clause-read
returns-then-not-is_next-clause-read c =
    let nodes = c.args.nodes.now in
    let at = (goal.at.returns-then-not-is_next-clause-read c).After-is_next in
    inr (with_kept c.args.head nodes.depths.items nodes.entries.items c.args.line.now.number _ (depth_in c.as_slice.result.now)
    (entries_in c.as_slice.result.now) c.requires.head c.requires.kept (said at) false (test at ∙ c.if-not-is_next.true)
    ∙ ap (λ n. Err (BadTree n)) (sym c.number.ensures))

pub returns-clause-read : goal.returns-clause-read
returns-clause-read c =
    let nodes = c.args.nodes.now in
    let depth = depth_in c.as_slice.result.now in
    let node = entries_in c.as_slice.result.now in
    let at = (goal.at.returns-clause-read c).After-is_next in
    rw (c.in_ok-push.ensures.items, c.in_ok-add_entries.ensures)
    (with_kept c.args.head nodes.depths.items nodes.entries.items c.args.line.now.number _ depth node c.requires.head c.requires.kept (said at) true (test at ∙ c.if-not-is_next.false)
    ∙ ap Ok (sym (nodes_of-push c.args.head.states nodes.depths.items nodes.entries.items depth node c.requires.kept.filled
    (next (goal.at.returns-clause-read c).Else-not-is_next).width)))

pub returns-clause-kept : goal.returns-clause-kept
returns-clause-kept c =
    let nodes = c.args.nodes.now in
    rw (c.in_ok-push.ensures.items, c.in_ok-add_entries.ensures)
    (kept-push c.args.head nodes.depths.items nodes.entries.items (depth_in c.as_slice.result.now) (entries_in c.as_slice.result.now) c.requires.head c.requires.kept
    (next (goal.at.returns-clause-kept c).Else-not-is_next))
