use Rattle.desk_core.proofs.Names.{Advances, GoesOn, IsAnyOut, Progress, Ready, Unsent, ap, job_in, refl, stage, subst, sym, ◌∙◌, ◌≡◌}
use Rattle.desk_core.proofs.Steps.{GoesOn-on, GoesOn-told}
use Rattle.desk_core.proofs.Turns.{advances-received, fewer-nothing, fewer-waiting}
use Rattle.desk_core.proofs.progress.Progress.exchange.Goals as goal

-- what holds of a progress of which it is seen what isn't sent yet
as_shown : (P : Progress → Type 0) (progress : Progress) (shown : Unsent) → progress.unsent ≡ shown
    → P (record { unsent = shown; cause = progress.cause }) → P progress
as_shown P progress shown is h = subst (λ u. P (record { unsent = u; cause = progress.cause })) (sym is) h

pub returns-in-Waiting-clause-goes : goal.returns-in-Waiting-clause-goes
returns-in-Waiting-clause-goes g c =
    let before = c.args.self.now in
    let left : Progress = record { unsent = Ready c.in-Waiting.job; cause = before.cause } in
    GoesOn-on _ _ _
    (GoesOn-told c.args.desk.now (g.P.Post.view c.args.post.now) before left
    (ap job_in (sym c.in-Waiting.is ∙ c.replace.ensures.value)) refl) c.receive.ensures.goes

pub returns-in-Waiting-clause-nears : goal.returns-in-Waiting-clause-nears
returns-in-Waiting-clause-nears g c =
    let before = c.args.self.now in
    let left : Progress = record { unsent = Ready c.in-Waiting.job; cause = before.cause } in
    let post = g.P.Post.view c.args.post.now in
    advances-received c.args.desk.now post before left
    (stage c.receive.new.desk (g.P.Post.view c.receive.new.post) c.receive.new.self) c.receive.result refl
    c.receive.ensures.goes
    (λ at_hand. fewer-waiting c.in-Waiting.job before.unsent post.held
    (sym c.replace.ensures.value ∙ c.in-Waiting.is)) c.receive.ensures.frees

pub returns-then-is_out-clause-nears : goal.returns-then-is_out-clause-nears
returns-then-is_out-clause-nears g c =
    let receive = c.receive-then-is_out in
    let before = c.args.self.now in
    let left : Progress = record { unsent = c.replace.new.dest; cause = before.cause } in
    let post = g.P.Post.view c.args.post.now in
    advances-received c.args.desk.now post before left
    (stage receive.new.desk (g.P.Post.view receive.new.post) receive.new.self) receive.result refl
    receive.ensures.goes
    (fewer-nothing c.args.desk.now c.replace.new.dest before.unsent post.held c.replace.ensures.after
    (sym c.replace.ensures.value ∙ c.in-Nothing.is)
    (subst (IsAnyOut c.args.desk.now) c.if-is_out.true c.is_out.ensures)) receive.ensures.frees

pub returns-in-Ready-clause-nears : goal.returns-in-Ready-clause-nears
returns-in-Ready-clause-nears g c =
    let t = stage c.send.new.desk (g.P.Post.view c.send.new.post) c.send.new.self in
    as_shown (λ s. Advances (stage c.args.desk.now (g.P.Post.view c.args.post.now) s) t c.send.result)
    c.args.self.now (Ready c.in-Ready.job) (sym c.replace.ensures.value ∙ c.in-Ready.is) c.send.ensures.nears

pub returns-then-is_out-clause-goes : goal.returns-then-is_out-clause-goes
returns-then-is_out-clause-goes g c =
    let receive = c.receive-then-is_out in
    let t = stage receive.new.desk (g.P.Post.view receive.new.post) receive.new.self in
    as_shown (λ s. GoesOn 0 (stage c.args.desk.now (g.P.Post.view c.args.post.now) s) t) c.args.self.now
    c.replace.new.dest (sym c.replace.ensures.value ∙ c.in-Nothing.is ∙ sym c.replace.ensures.after)
    receive.ensures.goes
