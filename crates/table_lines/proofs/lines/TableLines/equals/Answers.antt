use Rattle.table_lines.proofs.Names.{Table, and_parts, ap, eqb-true, headed, pointwise, rules, slice_eq-Decides, sym, ◌∙◌, ◌≡◌}
use denote.Enum.Bare.{same_true}
use Rattle.table_lines.specs.contracts.neighborhood.Neighborhood as neighborhood
use Rattle.table_lines.specs.contracts.symmetry.Symmetry as symmetry
use Rattle.table_lines.specs.Equality.{same_transition, same_transition-decides}
use Rattle.table_lines.proofs.lines.TableLines.equals.Goals as goal

pub returns-then-eq : goal.returns-then-eq
returns-then-eq c =
    let a = c.self.inside in
    let b = c.other.inside in
    let first = and_parts _ _ (sym c.if-eq.ensures) in
    let second = and_parts _ _ first.1 in
    let states : a.head.states ≡ b.head.states = eqb-true a.head.states b.head.states first.0 in
    let neighborhoods : a.head.neighborhood ≡ b.head.neighborhood = same_true neighborhood.the_type (search rules) _ _ second.0 in
    let symmetries : a.head.symmetry ≡ b.head.symmetry = same_true symmetry.the_type (search rules) _ _ second.1 in
    let heads : a.head ≡ b.head = λ i. record { states = states i; neighborhood = neighborhoods i; symmetry = symmetries i } in
    let same = slice_eq-Decides {E = same_transition} same_transition-decides a.transitions b.transitions c.eq-then-eq.result
    (c.eq-then-eq.ensures ∙ (λ i. pointwise same_transition (c.as_slice.ensures i) (c.as_slice-then-eq.ensures i))) in (
      λ h. sym c.self.view_is ∙ (λ i. headed (heads i) (same.0 h i)) ∙ c.other.view_is,
      λ e. same.1 (ap (λ (t : Table). t.transitions) (c.self.view_is ∙ e ∙ sym c.other.view_is)),
    )
