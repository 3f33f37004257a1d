use Rattle.decision_tree.proofs.Names.{ap, next, ◌∙◌}
use Rattle.decision_tree.proofs.Following.{next-kept, stores-kept}
use Rattle.decision_tree.proofs.tree.TreeRule.next.Goals as goal

pub next_in-requires-clause-stores : goal.next_in-requires-clause-stores
next_in-requires-clause-stores c =
    stores-kept c.self.inside.states c.self.inside.neighbors c.self.inside.root c.self.inside.entries c.self.invariant

pub returns : goal.returns
returns c =
    let rule = c.self.inside in
    let around = c.args.around.now.0 in
    c.next_in.ensures
    ∙ next-kept rule.states rule.neighbors rule.root rule.entries around
    ∙ ap (λ tree. next tree around) c.self.view_is
