use Rattle.decision_tree.proofs.Names.{ap, arith, length, rules, sym, tree_of_kept, ◌*◌, ◌+◌, ◌∙◌, ◌≡◌}
use Rattle.std.proofs.lemmas.Slice.Eq.{bytes_eq-Decides}
use denote.Enum.Bare.{differs_false}
use Rattle.decision_tree.specs.contracts.tree.Neighbors.{the_type}
use Rattle.decision_tree.proofs.SameTrees.{entries_same, roots_same}
use Rattle.decision_tree.proofs.tree.TreeRule.equals.Goals as goal

pub returns : goal.returns
returns c =
    let a = c.self.inside in
    let b = c.other.inside in
    let x = a.entries in
    let y = b.entries in
    let states : a.states ≡ b.states = c.if-self-other.false in
    let neighbors : a.neighbors ≡ b.neighbors = differs_false the_type (search rules) _ _ (sym c.if-ne.ensures) in
    let same = bytes_eq-Decides x y in (
      λ h.
          let entries : x ≡ y = same.0 (sym c.eq.ensures ∙ h) in
          let root : a.root ≡ b.root = roots_same a.states a.root b.root (omega (arith, c.self.invariant.at_least)) (sym c.self.invariant.filled ∙ ap length entries ∙ c.other.invariant.filled ∙ ap (λ n. (b.root + 1) * n) (sym states)) in
          sym c.self.view_is ∙ (λ i. tree_of_kept (states i) (neighbors i) (root i) (entries i)) ∙ c.other.view_is,
      λ e. c.eq.ensures ∙ same.1 (entries_same a.states b.states a.neighbors b.neighbors a.root b.root x y c.self.invariant.filled c.other.invariant.filled (c.self.view_is ∙ e ∙ sym c.other.view_is)),
    )
