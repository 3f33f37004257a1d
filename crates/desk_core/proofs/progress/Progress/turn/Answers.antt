use Rattle.desk_core.specs.Progress.{stage}
use Rattle.desk_core.proofs.Steps.{GoesOn-on, none_before}
use Rattle.desk_core.proofs.Turns.{nears_on}
use Rattle.desk_core.proofs.progress.Progress.turn.Goals as goal

pub returns-clause-goes : goal.returns-clause-goes
returns-clause-goes g c =
    GoesOn-on _ _ _ (c.issue.ensures.goes (g.P.Post.view c.args.post.now)) c.exchange.ensures.goes

pub returns-clause-nears : goal.returns-clause-nears
returns-clause-nears g c = λ first begun comes all none.
    let post = g.P.Post.view c.args.post.now in
    let goes = c.issue.ensures.goes post in
    nears_on (stage c.args.desk.now post c.args.self.now) (stage c.issue.new.desk post c.issue.new.self)
    (stage c.exchange.new.desk (g.P.Post.view c.exchange.new.post) c.exchange.new.self) c.exchange.result
    (c.issue.ensures.turns post.held (none_before _ _ c.exchange.ensures.goes.cause none))
    (c.exchange.ensures.nears first begun (goes.comes first begun comes) all none)
