use Rattle.desk_server.proofs.Names.{AppendsFront, Wrote, arith, front_first, front_then, lines_of, refl, rules, subst, wrote_err}
use Rattle.desk_server.proofs.Lines.{all-lines}
use Rattle.desk_server.proofs.Told.{wrote_then}
use Rattle.desk_server.proofs.listing.tell_list.Goals as goal

pub returns-in_err-tell_branches-clause-bytes : goal.returns-in_err-tell_branches-clause-bytes
returns-in_err-tell_branches-clause-bytes g c = grind (arith, all-lines, front_first, wrote_err)

pub returns-in_err-tell_interventions-clause-bytes : goal.returns-in_err-tell_interventions-clause-bytes
returns-in_err-tell_interventions-clause-bytes g c = grind
    (arith, all-lines, front_first, front_then, wrote_err)

pub returns-in_err-tell_bookmarks-clause-bytes : goal.returns-in_err-tell_bookmarks-clause-bytes
returns-in_err-tell_bookmarks-clause-bytes g c =
    let d = c.args.desk.now in
    wrote_err _ _ c.from_residual-in_err-tell_bookmarks.result _ c.from_residual-in_err-tell_bookmarks.ensures.0
    (subst (AppendsFront _ _)
    (all-lines d c.branches-branches.result.now c.interventions-interventions.result.now (lines_of d.plan) (search rules)
    (search rules) refl)
    (front_then _ _ _ _ _ c.in_ok-tell_branches.ensures.bytes
    (front_then _ _ _ _ _ c.in_ok-tell_interventions.ensures.bytes
    (front_first _ _ _ _ c.in_err-tell_bookmarks.ensures.bytes))))

pub returns-clause-bytes : goal.returns-clause-bytes
returns-clause-bytes g c =
    let d = c.args.desk.now in
    subst (Wrote _ _ c.tell_parts.result)
    (all-lines d c.branches-branches.result.now c.interventions-interventions.result.now _ (search rules) (search rules)
    (search rules))
    (wrote_then _ _ _ c.tell_parts.result _ _ c.in_ok-tell_branches.ensures.bytes
    (wrote_then _ _ _ c.tell_parts.result _ _ c.in_ok-tell_interventions.ensures.bytes
    (wrote_then _ _ _ c.tell_parts.result _ _ c.in_ok-tell_bookmarks.ensures.bytes c.tell_parts.ensures.bytes)))
