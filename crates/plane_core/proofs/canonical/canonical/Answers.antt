use Rattle.plane_core.proofs.Names.{AreCentred, subst, sym, ◌∙◌}
use Rattle.plane_core.proofs.Shared.Tidy.{IfOk_then, tidied, kept-walked}
use Rattle.plane_core.proofs.Shared.Centres.{walked-filled}
use Rattle.plane_core.proofs.canonical.canonical.Goals as goal

pub add_centres-requires-clause-rows : goal.add_centres-requires-clause-rows
add_centres-requires-clause-rows c = walked-filled c.args.rows.items c.requires.rows

pub returns-then-branch-clause-kept : goal.returns-then-branch-clause-kept
returns-then-branch-clause-kept c =
    let rows = c.deref.result.now in
    let centred : AreCentred c.args.rows.items rows = subst (AreCentred c.args.rows.items) (sym c.deref.ensures.value) c.in_ok-add_centres.ensures.centred in
    IfOk_then c.walked.result c.walked.ensures.rows (λ all e. kept-walked rows all.items (tidied rows all.items centred.valid e) centred.least)

pub returns-then-branch-clause-world : goal.returns-then-branch-clause-world
returns-then-branch-clause-world c =
    let rows = c.deref.result.now in
    let centred : AreCentred c.args.rows.items rows = subst (AreCentred c.args.rows.items) (sym c.deref.ensures.value) c.in_ok-add_centres.ensures.centred in
    IfOk_then c.walked.result c.walked.ensures.rows (λ all e. (tidied rows all.items centred.valid e).world ∙ centred.world)
