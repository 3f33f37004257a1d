use Rattle.decision_tree.proofs.Names.{IsKeptTree, Ok, ap, arith, if_quiescent, inr, next, nine_zeros, sym, tree_of_kept, ◌-◌, ◌∙◌, ◌≡◌}
use Rattle.decision_tree.proofs.Finishing.{if_quiescent-no, if_quiescent-yes, kept-tree, tree-kept}
use Rattle.decision_tree.proofs.Following.{next-kept}
use Rattle.decision_tree.proofs.tree_reader.finish.Goals as goal
use Rattle.decision_tree.proofs.tree_reader.finish.Goals.{After-next_in, Else-next_in-ne0}

-- what is found is the next state among zeros
found : (c : After-next_in) → c.next_in.result ≡ next (tree_of_kept c.args.head.states c.args.head.neighbors (c.args.head.node_count - 1) c.args.nodes.entries.items) nine_zeros
found c =
    let head = c.args.head in
    let root = head.node_count - 1 in
    rw c.in_ok-entries.ensures at (c.next_in.ensures ∙ next-kept head.states head.neighbors root c.in_ok-entries.entries nine_zeros)

-- where it is 0 the tree is one that a file may have
kept : (c : Else-next_in-ne0) → IsKeptTree c.args.head.states c.args.head.neighbors (c.args.head.node_count - 1) c.args.nodes.entries.items
kept c =
    kept-tree c.args.head c.args.nodes.depths.items c.args.nodes.entries.items (c.args.head.node_count - 1) c.requires.head c.requires.kept c.requires.whole
    (omega (arith, c.requires.head.some)) (sym (found c.before) ∙ c.if-next_in-ne0.false)

pub returns-then-next_in-ne0-clause-tree : goal.returns-then-next_in-ne0-clause-tree
returns-then-next_in-ne0-clause-tree c =
    let head = c.args.head in
    let root = head.node_count - 1 in
    inr (ap if_quiescent (tree-kept head c.args.nodes.depths.items c.args.nodes.entries.items root (omega (arith, c.requires.whole, c.requires.head.some)))
    ∙ if_quiescent-no (tree_of_kept head.states head.neighbors root c.args.nodes.entries.items)
    (λ still. c.if-next_in-ne0.true (found (goal.at.returns-then-next_in-ne0-clause-tree c).After-next_in ∙ still)))

pub new-requires : goal.new-requires
new-requires c = rw c.in_ok-entries.ensures (kept (goal.at.new-requires c).Else-next_in-ne0)

pub returns-clause-tree : goal.returns-clause-tree
returns-clause-tree c =
    let head = c.args.head in
    let root = head.node_count - 1 in
    ap if_quiescent (tree-kept head c.args.nodes.depths.items c.args.nodes.entries.items root (omega (arith, c.requires.whole, c.requires.head.some)))
    ∙ if_quiescent-yes (tree_of_kept head.states head.neighbors root c.args.nodes.entries.items)
    (sym (found (goal.at.returns-clause-tree c).After-next_in) ∙ c.if-next_in-ne0.false)
    ∙ ap Ok (sym (rw c.in_ok-entries.ensures at c.new.ensures))

pub returns-clause-sound : goal.returns-clause-sound
returns-clause-sound c = rw (c.new.ensures, c.in_ok-entries.ensures) (kept (goal.at.returns-clause-sound c).Else-next_in-ne0).sound
