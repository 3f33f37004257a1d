use Rattle.desk_script.proofs.Names.{add_branch, ap, arith, branch_id, codes, ids_between, length, refl, skip_branch, ◌++◌, ◌<◌, ◌∙◌}
use Rattle.desk_script.proofs.Pushed.{added-more, skipped, branch-skipped}
use Rattle.desk_script.proofs.scripting.push_branches.Goals as goal

pub loop-branch-preserved : goal.loop-branch-preserved
loop-branch-preserved c =
    let below : c.loop-branch.branch-index < length c.args.branches.now = omega arith in
    added-more branch_id skip_branch add_branch _ c.loop-branch.script.items _ _ c.loop-branch.last _ _ _ _ below refl
    (c.in_ok-push_skipped.ensures ∙ ap (λ v. c.loop-branch.script.items ++ v)
    (skipped skip_branch (codes "branch 0 0\n") (codes "unbranch ") (ids_between c.loop-branch.last _) branch-skipped))
    c.in_ok-push_branch.ensures c.loop-branch.invariant
