use Rattle.tree_translation.proofs.Names.{Node, [], arith, entries_in, length, length-append, map_more, node_at, nodes_in-push, take, ◌++◌, ◌+◌, ◌∙◌, ◌∷◌, ◌≡◌}
use Rattle.tree_translation.proofs.MadeNodes.{length-listed, listed-at}
use Rattle.tree_translation.proofs.sharing.joined.Goals as goal

pub loop-node-preserved : goal.loop-node-preserved
loop-node-preserved c =
    let i = c.loop-node.node-index in
    let old = c.loop-node.entries.items in
    let node = c.node-item.result in
    let rows = c.args.nodes.now in
    let at : node_at (entries_in rows) i ≡ node.entries = rw (listed-at rows i node c.loop-node-test.true, ← c.node-item.is) in
    let width : length node.entries ≡ c.args.states = rw at at (c.requires.width i [] (omega (arith, c.loop-node-test.true, length-listed rows))) in
    let more : c.add_to.new.numbers.items ≡ old ++ node.entries = c.in_ok-add_to.ensures in
    let kept : entries_in (take (i + 1) rows) ≡ entries_in (take i rows) ++ node.entries ∷ [] =
    rw (map_more (λ (x : Node). x.entries) rows i node c.loop-node-test.true, ← c.node-item.is) in
    record {
      filled = rw more (length-append old node.entries ∙ omega (arith, width, c.loop-node.invariant.filled));
      nodes = rw (more, kept, ← c.loop-node.invariant.nodes) (nodes_in-push c.args.states i old node.entries c.loop-node.invariant.filled width);
    }
