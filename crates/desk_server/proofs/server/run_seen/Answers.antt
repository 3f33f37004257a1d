use Rattle.desk_server.proofs.Names.{opened, refl}
use Rattle.desk_server.proofs.Jobs.{carries_first, is_opened}
use Rattle.desk_server.proofs.Rounds.{none_begun}
use Rattle.desk_server.proofs.server.run_seen.Goals as goal

pub answer_commands-answered-requires-clause-opened : goal.answer_commands-answered-requires-clause-opened
answer_commands-answered-requires-clause-opened g c =
    is_opened c.in-Ok.desk c.args.entries.now c.in-Ok.ensures.opened

pub answer_commands-answered-requires-clause-carries : goal.answer_commands-answered-requires-clause-carries
answer_commands-answered-requires-clause-carries g c =
    carries_first _ c.args.entries.now c.in-Ok.desk c.in-Ok.ensures.opened c.requires

pub returns-in_default-clause-shown : goal.returns-in_default-clause-shown
returns-in_default-clause-shown g c =
    none_begun g.O.Onlooker.sees (g.P.Post.view c.args.post.now) (opened c.args.entries.now 0) c.args.onlooker.now
    c.args.reader.now.ahead.bytes refl

pub returns-in_default-new-clause-shown : goal.returns-in_default-new-clause-shown
returns-in_default-new-clause-shown g c =
    none_begun g.O.Onlooker.sees (g.P.Post.view c.args.post.now) (opened c.args.entries.now 0) c.args.onlooker.now
    c.args.reader.now.ahead.bytes refl
