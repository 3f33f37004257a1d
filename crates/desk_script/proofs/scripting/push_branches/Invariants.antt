use Rattle.desk_script.proofs.Names.{add_branch, branch_id, drop, skip_branch}
use Rattle.desk_script.proofs.Pushed.{IsAdding}
use Rattle.desk_script.proofs.scripting.push_branches.Given as goal

abbrev pub invariant-loop-branch : goal.invariant-loop-branch
invariant-loop-branch l = IsAdding branch_id skip_branch add_branch l.fn.script.items l.script.items l.last
    (drop l.branch-index l.branches) l.branches
