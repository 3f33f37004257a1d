use Rattle.desk_server.proofs.Replies.{serves-memory, serves-refused, serves_taken, none-lacks}
use Rattle.desk_server.proofs.Noted.{looked_none, looked_refused, looked_taken}
use Rattle.desk_server.proofs.serve.serve.Goals as goal

pub returns-in-Take-clause-answer : goal.returns-in-Take-clause-answer
returns-in-Take-clause-answer g c =
    serves_taken (g.P.Post.view c.args.post.now).is_prompt c.args.request c.in-Take.format c.in-Take.text
    c.take_text.result c.args.desk.now c.take_text.new.desk c.args.rule.now c.in-Take.is c.take_text.ensures.answer

pub returns-in-Refuse-clause-answer : goal.returns-in-Refuse-clause-answer
returns-in-Refuse-clause-answer g c =
    serves-refused
    _ c.args.request c.in-Refuse.fault c.refused.result c.args.desk.now c.args.rule.now
    c.in-Refuse.is (c.refused.ensures.text c.args.desk.now) c.refused.ensures.goes_on

pub returns-in-NoMemory-clause-answer : goal.returns-in-NoMemory-clause-answer
returns-in-NoMemory-clause-answer g c =
    serves-memory _ c.args.request c.refused-in-NoMemory.result c.args.desk.now c.args.rule.now
    (none-lacks c.args.request c.in-NoMemory.is)
    (c.refused-in-NoMemory.ensures.text c.args.desk.now) c.refused-in-NoMemory.ensures.goes_on

pub returns-in-Take-clause-looked : goal.returns-in-Take-clause-looked
returns-in-Take-clause-looked g c = looked_taken g.O.Onlooker.sees _ _ _ _ _ _ _ _ c.in-Take.is

pub returns-in-Refuse-clause-looked : goal.returns-in-Refuse-clause-looked
returns-in-Refuse-clause-looked g c = looked_refused g.O.Onlooker.sees _ _ _ _ _ _ _ c.in-Refuse.is

pub returns-in-NoMemory-clause-looked : goal.returns-in-NoMemory-clause-looked
returns-in-NoMemory-clause-looked g c =
    looked_none g.O.Onlooker.sees _ _ _ _ _ c.args.request c.refused-in-NoMemory.ensures.is
