use Rattle.std.proofs.Common.{◌∙◌}
use Rattle.desk_script.proofs.Pushed.{whole}
use Rattle.desk_script.proofs.scripting.script_of.Goals as goal

pub returns : goal.returns
returns c =
    c.from_vec.ensures
    ∙ whole c.args.rule.now c.args.document.now _ _ _ _ _ _ _ _ _ c.new-script.ensures.items c.in_ok-push_rule.ensures
    c.in_ok-push_start.ensures c.in_ok-push_branches.ensures c.in_ok-push_bookmarks.ensures
    c.in_ok-push_interventions.ensures c.branches.ensures.branches c.bookmarks.ensures.bookmarks
    c.interventions.ensures
