use Rattle.multistate_macrocell.proofs.Names.{Cells, Some, [], add-one, arith, get_or, length, rules, slice_get, slice_get-get_or, subst, ◌∷◌, ◌≡◌}
use Rattle.multistate_macrocell.proofs.Standing.{Stand, next-follows, stand-more, stand-none, stand-world}
use Rattle.multistate_macrocell.proofs.rows.rows_of.Goals as goal

pub loop-node-init : goal.loop-node-init
loop-node-init c =
    let numbers : c.push.new.self.items ≡ 0 ∷ [] = search rules in
    let rows : c.new-rows.result.items ≡ [] = search rules in
    rw (numbers, rows) (stand-none c.args.nodes.now)

pub loop-node-preserved : goal.loop-node-preserved
loop-node-preserved c =
    let nodes = c.args.nodes.now in
    let place = c.loop-node.node-index in
    let rows = c.loop-node.rows.items in
    let new = c.push_node.new.rows.items in
    let numbers = c.loop-node.numbers.items in
    let number = c.in_ok-number.number in
    let node = get_or nodes place (Cells 0 0 0 0) in
    let at : slice_get nodes place ≡ Some node = slice_get-get_or nodes place (Cells 0 0 0 0) c.loop-node-test.true in
    let more = stand-more rows new nodes numbers place number node c.requires c.loop-node.invariant at (rw c.deref.ensures.value at c.in_ok-number.ensures) in
    rw (c.in_ok-push-2.ensures.items, add-one) more

pub push_node-requires-clause-rows : goal.push_node-requires-clause-rows
push_node-requires-clause-rows c = c.loop-node.invariant.valid

pub push_node-requires-clause-node : goal.push_node-requires-clause-node
push_node-requires-clause-node c =
    let nodes = c.args.nodes.now in
    let place = c.loop-node.node-index in
    let rows = c.loop-node.rows.items in
    let node = get_or nodes place (Cells 0 0 0 0) in
    let at : slice_get nodes place ≡ Some node = slice_get-get_or nodes place (Cells 0 0 0 0) c.loop-node-test.true in
    rw c.deref.ensures.value (next-follows rows nodes c.loop-node.numbers.items place node c.requires c.loop-node.invariant at)

pub returns-clause-rows : goal.returns-clause-rows
returns-clause-rows c = c.loop-node.invariant.valid

pub returns-clause-world : goal.returns-clause-world
returns-clause-world c =
    let nodes = c.args.nodes.now in
    let rows = c.loop-node.rows.items in
    let numbers = c.loop-node.numbers.items in
    let all : c.loop-node.node-index ≡ length nodes = omega arith in
    stand-world rows nodes numbers c.requires (subst (Stand rows nodes numbers) all c.loop-node.invariant)
