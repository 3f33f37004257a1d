use Rattle.desk_server.proofs.Jobs.{carries_served}
use Rattle.desk_server.proofs.Left.{computed_all, computed_some}
use Rattle.desk_server.proofs.serve.compute.Goals as goal

pub returns-in-Settled-clause-post : goal.returns-in-Settled-clause-post
returns-in-Settled-clause-post g c = carries_served _ _ _ _ c.requires c.settle_seen.ensures.post

pub returns-in-Settled-clause-left : goal.returns-in-Settled-clause-left
returns-in-Settled-clause-left g c =
    computed_all _ _ _ _ _ _ c.in-Settled.is c.settle_seen.ensures.settles c.settle_seen.ensures.ends

pub returns-in-Unsettled-clause-left : goal.returns-in-Unsettled-clause-left
returns-in-Unsettled-clause-left g c =
    computed_some _ _ _ _ _ _ _ _ _ c.in-Unsettled.is c.settle_seen.ensures.settles c.settle_seen.ensures.ends
    c.give_up.ensures.calls c.give_up.ensures.known c.give_up.ensures.right
