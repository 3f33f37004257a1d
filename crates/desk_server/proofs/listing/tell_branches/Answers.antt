use Rattle.desk_server.proofs.Names.{arith, branch_line, length, wrote_err, ◌<◌, ◌∙◌}
use Rattle.desk_server.proofs.Told.{parts_more, parts_broken}
use Rattle.desk_server.proofs.listing.tell_branches.Goals as goal

pub returns-in_err-tell_branch-clause-bytes : goal.returns-in_err-tell_branch-clause-bytes
returns-in_err-tell_branch-clause-bytes g c =
    let low : c.loop-branch.branch-index < length c.args.branches.now = omega arith in
    wrote_err _ _ c.from_residual.result _ c.from_residual.ensures.0
    (parts_broken branch_line _ _ _ c.args.branches.now c.loop-branch.branch-index _ low c.loop-branch.invariant.told
    c.in_err-tell_branch.ensures.bytes)

pub loop-branch-preserved : goal.loop-branch-preserved
loop-branch-preserved g c =
    let low : c.loop-branch.branch-index < length c.args.branches.now = omega arith in
    record {
      told = parts_more branch_line _ _ _ c.args.branches.now c.loop-branch.branch-index _ low c.loop-branch.invariant.told
          c.in_ok-tell_branch.ensures.bytes;
      worked = c.in_ok-tell_branch.ensures.worked ∙ c.loop-branch.invariant.worked;
    }
