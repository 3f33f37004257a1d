use Rattle.desk_server.proofs.Names.{Changed, NoShortage, Shortage, TellsPending, asked_of, edited, id_word, inl, refl, rules, scripted, session, shown_id, subst, sym, true, unless_unread}
use Rattle.desk_server.proofs.Jobs.{carries_on}
use Rattle.desk_server.proofs.Left.{left_idle}
use Rattle.desk_server.proofs.Noted.{draws_more, unwatched}
use Rattle.desk_server.proofs.Replies.{may-be-unread, over-any, polled_goes_on, read-edited, read-shown}
use Rattle.desk_server.proofs.serve.obey.Goals as goal

pub returns-in-Quit-clause-answer : goal.returns-in-Quit-clause-answer
returns-in-Quit-clause-answer g c = (NoShortage, λ _. tt, search rules)

pub returns-in-Help-clause-answer : goal.returns-in-Help-clause-answer
returns-in-Help-clause-answer g c = (NoShortage, λ _. tt, search rules)

pub returns-in-Edit-clause-answer : goal.returns-in-Edit-clause-answer
returns-in-Edit-clause-answer g c =
    let p = c.args.desk.now.plan in
    let asked = asked_of c.in-Edit.change in
    rw c.in-Edit.is (over-any (g.P.Post.view c.args.post.now).is_prompt
    (λ (short : Shortage). unless_unread short p (edited short p asked)) c.edit.result c.edit.new.desk
    (read-edited asked c.args.desk.now c.edit.new.desk c.edit.result (id_word asked) (λ (d : Changed). d.edited.id)
    c.edit.ensures.answer))

pub returns-in-Edit-clause-post : goal.returns-in-Edit-clause-post
returns-in-Edit-clause-post g c =
    let post = g.P.Post.view c.args.post.now in
    carries_on post post c.args.desk.now c.edit.new.desk c.edit.ensures.jobs
    (record { limit = refl; kind = refl; carries = c.requires })

pub returns-in-Show-clause-answer : goal.returns-in-Show-clause-answer
returns-in-Show-clause-answer g c =
    rw c.in-Show.is (read-shown (g.P.Post.view c.args.post.now).is_prompt c.args.desk.now.plan c.in-Show.id
    c.show.result c.show.new.desk c.show.ensures.answer)

pub returns-in-Peek-clause-answer : goal.returns-in-Peek-clause-answer
returns-in-Peek-clause-answer g c =
    let p = c.args.desk.now.plan in
    rw c.in-Peek.is (over-any (g.P.Post.view c.args.post.now).is_prompt
    (λ (short : Shortage). unless_unread short p (shown_id short p c.in-Peek.id)) c.peek.result c.args.desk.now
    (read-shown true p c.in-Peek.id c.peek.result c.args.desk.now c.peek.ensures.answer))

pub returns-in-Script-clause-answer : goal.returns-in-Script-clause-answer
returns-in-Script-clause-answer g c =
    let p = c.args.desk.now.plan in
    let s = session c.args.desk.now c.args.rule.now in
    rw c.in-Script.is (over-any (g.P.Post.view c.args.post.now).is_prompt
    (λ (short : Shortage). unless_unread short p (scripted short s)) c.script.result c.args.desk.now
    (may-be-unread true p (λ (short : Shortage). scripted short s) c.script.result c.args.desk.now refl
    c.script.ensures.answer))

pub returns-in-Edit-clause-left : goal.returns-in-Edit-clause-left
returns-in-Edit-clause-left g c =
    rw c.in-Edit.is (left_idle _ _ _ _ _ c.edit.ensures.left c.edit.ensures.pending (λ takes. takes))

pub returns-in-Settle-clause-left : goal.returns-in-Settle-clause-left
returns-in-Settle-clause-left g c = rw c.in-Settle.is c.settle.ensures.left

pub returns-in-Work-clause-left : goal.returns-in-Work-clause-left
returns-in-Work-clause-left g c = rw c.in-Work.is c.work.ensures.left

pub returns-in-Show-clause-left : goal.returns-in-Show-clause-left
returns-in-Show-clause-left g c = rw c.in-Show.is c.show.ensures.left

pub returns-in-Peek-clause-left : goal.returns-in-Peek-clause-left
returns-in-Peek-clause-left g c =
    let pending = subst (λ r. TellsPending r c.args.desk.now) (sym c.peek.ensures.is) tt in
    rw c.in-Peek.is (left_idle _ _ _ _ _ (inl c.peek.ensures.is, refl) pending (λ takes. takes))

pub returns-in-Poll-clause-left : goal.returns-in-Poll-clause-left
returns-in-Poll-clause-left g c = rw c.in-Poll.is c.poll.ensures.left

pub returns-in-List-clause-left : goal.returns-in-List-clause-left
returns-in-List-clause-left g c =
    let pending = subst (λ r. TellsPending r c.args.desk.now) (sym c.list.ensures.is) tt in
    rw c.in-List.is (left_idle _ _ _ _ _ (c.list.ensures.is, refl) pending (λ takes. takes))

pub returns-in-Script-clause-left : goal.returns-in-Script-clause-left
returns-in-Script-clause-left g c =
    rw c.in-Script.is (left_idle _ _ _ _ _ refl c.script.ensures.pending (λ takes. takes))

pub returns-in-Help-clause-left : goal.returns-in-Help-clause-left
returns-in-Help-clause-left g c = rw c.in-Help.is (left_idle _ _ _ _ _ refl tt (λ takes. takes))

pub returns-in-Quit-clause-left : goal.returns-in-Quit-clause-left
returns-in-Quit-clause-left g c = rw c.in-Quit.is (left_idle _ _ _ _ _ refl tt (λ takes. takes))

pub returns-in-Settle-clause-looked : goal.returns-in-Settle-clause-looked
returns-in-Settle-clause-looked g c = rw c.in-Settle.is c.settle.ensures.looked

pub returns-in-Show-clause-looked : goal.returns-in-Show-clause-looked
returns-in-Show-clause-looked g c = rw c.in-Show.is c.show.ensures.looked

pub returns-in-Poll-clause-looked : goal.returns-in-Poll-clause-looked
returns-in-Poll-clause-looked g c =
    let jobs = c.poll.ensures.left.jobs tt in
    let goes_on = polled_goes_on _ _ _ _ c.poll.result c.poll.ensures.polls in
    rw c.in-Poll.is (unwatched g.O.Onlooker.sees _ _ _ _ _ _ _ (draws_more _ _ _ _ jobs.later tt jobs.gave)
    (λ has. absurd has) (λ bye. absurd (cc (bye, goes_on))))
