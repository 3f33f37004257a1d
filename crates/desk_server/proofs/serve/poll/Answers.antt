use Rattle.desk_server.proofs.Jobs.{carries_served}
use Rattle.desk_server.proofs.Left.{left_polled}
use Rattle.desk_server.proofs.serve.poll.Goals as goal

pub returns-clause-post : goal.returns-clause-post
returns-clause-post g c = carries_served _ _ _ _ c.requires c.poll-pending.ensures.post

pub returns-clause-left : goal.returns-clause-left
returns-clause-left g c =
    let h = c.poll-pending.ensures in
    left_polled _ _ _ _ h.post.kind c.poll-pending.result h.calls h.keeps h.cause h.polls
    (λ is. h.prompt (record { prompt = is; held = c.requires.out is }))
