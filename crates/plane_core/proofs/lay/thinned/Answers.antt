use Rattle.plane_core.proofs.Names.{AreRows, arith, subst, sym}
use Rattle.plane_core.proofs.Shared.Tidy.{tidied}
use Rattle.plane_core.proofs.lay.thinned.Goals as goal

pub returns : goal.returns
returns c =
    let old = c.deref.result.now in
    let valid = subst AreRows (sym c.deref.ensures.value) c.requires.rows.0 in
    let left = tidied old c.in_ok-rows.field-0.items valid c.in_ok-rows.ensures.rows in
    grind (arith)
