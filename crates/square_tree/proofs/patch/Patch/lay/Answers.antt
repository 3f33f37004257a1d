use Rattle.square_tree.proofs.Names.{Cells, IsPartlyOverlaid, ap, arith, cells_of_tree, overlaid, place_cmp, quadtree, subst, ℕ, ◌∙◌, ◌≡◌, ◌≤◌}
use Rattle.std.specs.FinMap as finite
use Rattle.square_tree.proofs.Covered.{on_ok, on_err}
use Rattle.square_tree.proofs.Shared.Quarters.{reach_mono}
use Rattle.square_tree.proofs.Mapped.{states_of-laid, partly_overlaid}
use Rattle.square_tree.proofs.patch.Patch.lay.Goals as goal

pub returns-clause-ok : goal.returns-clause-ok
returns-clause-ok g c =
    let l = c.self.inside.level in
    let k = c.other.inside.level in
    let a : l ≡ c.args.self.now.level = ap (λ (v : Cells). v.level) c.self.view_is in
    let b : k ≡ c.args.other.now.level = ap (λ (v : Cells). v.level) c.other.view_is in
    let less : k ≤ l = omega (arith, a, b, c.requires) in
    let cells : finite.FinMap place_cmp ℕ → Cells = λ m. record { level = l; states = m } in
    on_ok _ c.lay.ensures.ok (λ laid.
    ap cells (states_of-laid laid c.other.invariant.1 c.self.invariant.1 (reach_mono k l less))
    ∙ (λ i. overlaid (c.other.view_is i) (c.self.view_is i)))

pub returns-clause-err : goal.returns-clause-err
returns-clause-err g c =
    let l = c.self.inside.level in
    let k = c.other.inside.level in
    let a : l ≡ c.args.self.now.level = ap (λ (v : Cells). v.level) c.self.view_is in
    let b : k ≡ c.args.other.now.level = ap (λ (v : Cells). v.level) c.other.view_is in
    let less : k ≤ l = omega (arith, a, b, c.requires) in
    let new = cells_of_tree l (quadtree c.lay.new.self) in
    on_err _ c.lay.ensures.err (λ partly.
    subst (λ v. IsPartlyOverlaid v c.args.self.now new) c.other.view_is
    (subst (λ v. IsPartlyOverlaid (cells_of_tree k (quadtree c.other.inside.tree)) v new) c.self.view_is (partly_overlaid partly c.other.invariant.1 c.self.invariant.1 (reach_mono k l less))))
