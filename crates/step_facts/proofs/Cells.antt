-- When cells are the same.
use Rattle.std.proofs.Common.{◌≡◌, ap, Bool}
use Rattle.std.specs.Prelude.{◌&&◌, ◌==◌}
use Rattle.std.specs.Bool.{Decides}
use Rattle.std.specs.Ordering.{int_eq}
use Rattle.std.proofs.lemmas.Bool.{and_from, and_parts, eq-eqb, eqb-true}
use Rattle.std.proofs.lemmas.Bool.Decides.{Decides-int_eq}
use Rattle.worlds.specs.declared.cell.CellSet.{CellSet}

abbrev pub same_cell : CellSet → CellSet → Bool
same_cell a b = int_eq a.x b.x && (int_eq a.y b.y && (a.state == b.state))

pub same_cell-decides : (a b : CellSet) → Decides (same_cell a b) (a ≡ b)
same_cell-decides a b = (
  λ h.
      let outer = and_parts (int_eq a.x b.x) (int_eq a.y b.y && (a.state == b.state)) h in
      let inner = and_parts (int_eq a.y b.y) (a.state == b.state) outer.1 in
      let x = (Decides-int_eq a.x b.x).0 outer.0 in
      let y = (Decides-int_eq a.y b.y).0 inner.0 in
      let state = eqb-true a.state b.state inner.1 in
      (λ i. record { x = x i; y = y i; state = state i }),
  λ e.
      and_from (int_eq a.x b.x) (int_eq a.y b.y && (a.state == b.state))
      ((Decides-int_eq a.x b.x).1 (ap (λ (c : CellSet). c.x) e))
      (and_from (int_eq a.y b.y) (a.state == b.state)
      ((Decides-int_eq a.y b.y).1 (ap (λ (c : CellSet). c.y) e))
      (eq-eqb a.state b.state (ap (λ (c : CellSet). c.state) e))),
)
