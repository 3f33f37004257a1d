use Rattle.desk_core.proofs.Names.{Cancels, Closed, Full, Job, Progress, Some, Taken, ap, job_in, ready, refl, stage, subst, ◌≡◌}
use Rattle.desk_core.proofs.Steps.{GoesOn-cancelled, GoesOn-idle, GoesOn-on, GoesOn-sent, Idles-refused}
use Rattle.desk_core.proofs.progress.Progress.send.Goals as goal

pub returns-in-Taken-clause-goes : goal.returns-in-Taken-clause-goes
returns-in-Taken-clause-goes g c = GoesOn-sent _ _ _ _ _ c.in-Taken.ensures c.requires.none

pub returns-in-Full-clause-goes : goal.returns-in-Full-clause-goes
returns-in-Full-clause-goes g c =
    GoesOn-idle _ _ _ _ _ (Idles-refused _ _ _ _ (λ (is : Full c.in-Full.job ≡ Taken). cc) c.in-Full.ensures)
    (ap Some c.in-Full.ensures.sent.0) refl

pub returns-in-Closed-clause-goes : goal.returns-in-Closed-clause-goes
returns-in-Closed-clause-goes g c =
    let q = g.P.Post.view c.send.new.self in
    let new = c.cancel.new.self in
    let before : Progress = ready c.args.job c.args.self.now in
    let this : Cancels c.args.job.number c.args.desk.now new =
    subst (λ (j : Job). Cancels j.number c.args.desk.now new) c.in-Closed.ensures.sent.0
    (record { rows = c.cancel.ensures.rows; book = c.cancel.ensures.book; event = c.cancel.ensures.event }) in
    GoesOn-on _ (stage c.args.desk.now q before) _
    (GoesOn-idle _ _ _ _ _ (Idles-refused _ _ _ _ (λ (is : Closed c.in-Closed.job ≡ Taken). cc) c.in-Closed.ensures)
    refl refl)
    (GoesOn-cancelled c.args.desk.now new q before c.args.self.now this (ap job_in c.requires.none) refl)
