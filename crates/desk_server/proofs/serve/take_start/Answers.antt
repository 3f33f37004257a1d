use Rattle.desk_server.proofs.Names.{GivesAnswerBy, ReplaceStart, RevisedOrSame, Some, Unread, codes, inl, refl, rules, started, subst, true}
use Rattle.desk_server.proofs.Replies.{read-edited}
use Rattle.desk_server.proofs.serve.take_start.Goals as goal

pub returns-in-Ok-clause-answer : goal.returns-in-Ok-clause-answer
returns-in-Ok-clause-answer c =
    let p = c.args.desk.now.plan in
    let generation = c.args.pattern.generation in
    read-edited (ReplaceStart c.args.pattern.plane) c.args.desk.now c.begin.new.desk c.begin.result (codes " gen ")
    (λ _. Some generation)
    (subst (λ w. GivesAnswerBy true (λ short. started short p generation w) c.begin.result c.begin.new.desk)
    c.in-Ok.ensures.ok c.begin.ensures.answer)

pub returns-in-Ok-clause-left : goal.returns-in-Ok-clause-left
returns-in-Ok-clause-left c =
    subst (λ w. RevisedOrSame (ReplaceStart w) c.args.desk.now c.begin.new.desk) c.in-Ok.ensures.ok c.begin.ensures.left

pub returns-clause-answer : goal.returns-clause-answer
returns-clause-answer c = (Unread, λ _. tt, search rules)

pub returns-clause-left : goal.returns-clause-left
returns-clause-left c = inl refl
