use Rattle.plane_core.proofs.Names.{AreCountsOf, AreKept, World, ap, arith, length, replicate, subst, sym, world_of_rows, ◌∙◌}
use Rattle.plane_core.proofs.Measured.{counts-blank}
use Rattle.plane_core.proofs.Shared.Roots.{kept-none, world-none}
use Rattle.plane_core.proofs.plane.Plane.empty.Goals as goal

pub invariant_of-result : goal.invariant_of-result
invariant_of-result c =
    let blank_is = ap world_of_rows c.none.ensures ∙ world-none in (
      subst AreKept (sym c.none.ensures) kept-none,
      omega (arith, ap length c.none.ensures),
      record { counts = subst (λ (w : World). AreCountsOf w (replicate 256 0)) (sym blank_is) counts-blank; bounds = blank_is },
    )

pub returns : goal.returns
returns c = ap world_of_rows c.none.ensures ∙ world-none
