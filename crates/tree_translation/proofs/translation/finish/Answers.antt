use Rattle.tree_translation.proofs.Names.{arith, entries_in, length, length-nodes_in, nodes_in, ◌+◌, ◌-◌, ◌<◌, ◌∙◌, ◌≡◌, ◌≤◌}
use Rattle.table_symmetry.specs.RuleLaws.{zeros-below}
use Rattle.tree_translation.proofs.MadeNodes.{length-listed}
use Rattle.tree_translation.proofs.Translating.{may-keep, some-nodes, sound-tree, translates-kept}
use Rattle.tree_translation.proofs.translation.finish.Goals as goal
use Rattle.tree_translation.proofs.translation.finish.Goals.{After-states, In_ok-entries}

-- there is a root
some : (c : After-states) → 1 ≤ length c.args.nodes.now
some c =
    let table = c.args.table.now in
    let states : 0 < table.states = omega (arith, c.states.ensures.count, c.states.ensures.at_least) in
    omega (arith, some-nodes table (entries_in c.args.nodes.now) states c.requires.does, length-listed c.args.nodes.now)

-- the entries hold the nodes
same : (c : In_ok-entries) → nodes_in c.args.table.now.states (length c.args.nodes.now) c.in_ok-entries.entries ≡ entries_in c.args.nodes.now
same c = rw (← c.in_ok-entries.ensures, c.states.ensures.count) at c.in_ok-joined.ensures.nodes

pub joined-requires : goal.joined-requires
joined-requires c = record { width = rw c.states.ensures.count c.requires.does.width }

pub overflow_sub-nodes : goal.overflow_sub-nodes
overflow_sub-nodes c = some (goal.at.overflow_sub-nodes c).After-states

pub new-requires : goal.new-requires
new-requires c =
    let table = c.args.table.now in
    let least : 2 ≤ table.states = omega (arith, c.states.ensures.count, c.states.ensures.at_least) in
    let most : table.states ≤ 256 = omega (arith, c.states.ensures.count, c.states.ensures.at_most) in
    let filled = rw (← c.in_ok-entries.ensures, c.states.ensures.count) at c.in_ok-joined.ensures.filled in
    let sound = sound-tree table (entries_in c.args.nodes.now) (zeros-below table.states (omega (arith, least))).below c.requires.does c.requires.quiet in
    rw (c.states-2.ensures.count, c.neighbors_of.ensures, c.neighborhood.ensures)
    (may-keep table (entries_in c.args.nodes.now) (length c.args.nodes.now) c.in_ok-entries.entries least most (some (goal.at.new-requires c).After-states) filled
    (same (goal.at.new-requires c).In_ok-entries) sound)

pub returns-clause-translates : goal.returns-clause-translates
returns-clause-translates c =
    let at = goal.at.returns-clause-translates c in
    rw (c.new.ensures, c.states-2.ensures.count, c.neighbors_of.ensures, c.neighborhood.ensures)
    (translates-kept c.args.table.now (entries_in c.args.nodes.now) (length c.args.nodes.now) c.in_ok-entries.entries (some at.After-states)
    (same at.In_ok-entries) c.requires.does)

pub returns-clause-nodes : goal.returns-clause-nodes
returns-clause-nodes c =
    let count = length c.args.nodes.now in
    rw c.new.ensures (length-nodes_in c.states-2.result (count - 1 + 1) c.in_ok-entries.entries ∙ omega (arith, some (goal.at.returns-clause-nodes c).After-states))
