use Rattle.desk_server.proofs.Names.{NoShortage, ReplaceStart, Some, codes, inl, inr, rules}
use Rattle.std.specs.Arc.{arc_value}
use Rattle.desk_server.proofs.Jobs.{drops_none, edit_drops}
use Rattle.desk_server.proofs.Replies.{gives-refused}
use Rattle.desk_server.proofs.serve.begin.Goals as goal

pub returns-in-Err-clause-answer : goal.returns-in-Err-clause-answer
returns-in-Err-clause-answer c =
    gives-refused (ReplaceStart (arc_value c.args.start)) c.args.desk.now c.edit.new.self _ (codes " gen ")
    (λ _. Some c.args.generation) c.edit.result c.in-Err.fault c.in-Err.is c.in-Err.ensures.unchanged
    c.in-Err.ensures.refused c.edit.ensures.first c.refused.ensures.text c.refused.ensures.goes_on

pub returns-clause-answer : goal.returns-clause-answer
returns-clause-answer c = (NoShortage, λ _. tt, search rules)

pub returns-clause-left : goal.returns-clause-left
returns-clause-left c = inr (record {
  edited = c.in-Ok.edited;
  makes = c.in-Ok.ensures.ok;
  right = c.edit.ensures.right;
})

pub returns-in-Err-clause-left : goal.returns-in-Err-clause-left
returns-in-Err-clause-left c = inl c.in-Err.ensures.unchanged

pub returns-clause-jobs : goal.returns-clause-jobs
returns-clause-jobs c = edit_drops (ReplaceStart (arc_value c.args.start)) _ _ c.in-Ok.ensures.ok.revises

pub returns-in-Err-clause-jobs : goal.returns-in-Err-clause-jobs
returns-in-Err-clause-jobs c = drops_none _ _ c.in-Err.ensures.unchanged
