use Rattle.desk_server.proofs.Names.{NoShortage, refl}
use Rattle.desk_server.proofs.Jobs.{carries_served}
use Rattle.desk_server.proofs.Left.{left_working}
use Rattle.desk_server.proofs.serve.work.Goals as goal

pub returns-clause-answer : goal.returns-clause-answer
returns-clause-answer g c = (NoShortage, λ _. tt, rw c.feed.ensures.feeds.feeds.document.plan refl)

pub returns-clause-post : goal.returns-clause-post
returns-clause-post g c = carries_served _ _ _ _ c.requires c.feed.ensures.post

pub returns-clause-left : goal.returns-clause-left
returns-clause-left g c = left_working _ _ _ _ c.feed.ensures.post.kind _ c.feed.ensures.feeds
