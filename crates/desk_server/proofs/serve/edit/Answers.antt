use Rattle.desk_server.proofs.Names.{Changed, NoShortage, asked_of, id_word, inl, inr, rules}
use Rattle.desk_server.proofs.Jobs.{drops_none, edit_drops}
use Rattle.desk_server.proofs.Replies.{gives-refused}
use Rattle.desk_server.proofs.serve.edit.Goals as goal

pub returns-in-Err-clause-answer : goal.returns-in-Err-clause-answer
returns-in-Err-clause-answer c =
    let asked = asked_of c.args.edit.now in
    gives-refused asked c.args.desk.now c.edit.new.self _ (id_word asked) (λ (k : Changed). k.edited.id) c.edit.result
    c.in-Err.fault c.in-Err.is c.in-Err.ensures.unchanged c.in-Err.ensures.refused c.edit.ensures.first
    c.refused.ensures.text c.refused.ensures.goes_on

pub returns-in-Ok-clause-answer : goal.returns-in-Ok-clause-answer
returns-in-Ok-clause-answer c = (NoShortage, λ _. tt, search rules)

pub returns-in-Ok-clause-left : goal.returns-in-Ok-clause-left
returns-in-Ok-clause-left c = inr (record {
  edited = c.in-Ok.edited;
  makes = c.in-Ok.ensures.ok;
  right = c.edit.ensures.right;
})

pub returns-in-Err-clause-left : goal.returns-in-Err-clause-left
returns-in-Err-clause-left c = inl c.in-Err.ensures.unchanged

pub returns-in-Ok-clause-jobs : goal.returns-in-Ok-clause-jobs
returns-in-Ok-clause-jobs c = edit_drops (asked_of c.args.edit.now) _ _ c.in-Ok.ensures.ok.revises

pub returns-in-Err-clause-jobs : goal.returns-in-Err-clause-jobs
returns-in-Err-clause-jobs c = drops_none _ _ c.in-Err.ensures.unchanged
