use Rattle.desk_server.proofs.Names.{NoShortage, rules, ◌≢◌}
use Rattle.desk_server.proofs.Left.{left_settled, left_unsettled}
use Rattle.desk_server.proofs.Replies.{gives-unsettled}
use Rattle.desk_server.proofs.serve.settle.Goals as goal

pub returns-in-0-clause-answer : goal.returns-in-0-clause-answer
returns-in-0-clause-answer g c = (NoShortage, λ _. tt, search rules)

pub returns-in_default-clause-answer : goal.returns-in_default-clause-answer
returns-in_default-clause-answer g c =
    let some : c.pending.result ≢ 0 = search rules in
    gives-unsettled _ c.args.desk.now.plan c.compute-cause.new.desk c.pending.result
    c.compute-cause.result c.compute-cause.ensures.plan c.compute-cause.ensures.caused c.pending.ensures.count some
    c.pending.ensures.bound

pub returns-in-0-clause-left : goal.returns-in-0-clause-left
returns-in-0-clause-left g c =
    let h = c.compute-cause.ensures in
    left_settled _ _ _ _ h.post.kind _ h.left h.explained (search rules)

pub returns-in_default-clause-left : goal.returns-in_default-clause-left
returns-in_default-clause-left g c =
    let some : c.pending.result ≢ 0 = search rules in
    let h = c.compute-cause.ensures in
    left_unsettled _ _ _ _ h.post.kind _ _ h.left h.explained h.given_up c.pending.ensures.count some
