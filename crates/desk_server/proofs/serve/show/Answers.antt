use Rattle.std.proofs.Common.{◌≢◌, refl, rules}
use Rattle.dependency_book.specs.declared.shown.Shown.TheVariants.{Pending}
use Rattle.desk_server.proofs.Left.{left_at_once, left_shown}
use Rattle.desk_server.proofs.Replies.{gives-shown, not_pending}
use Rattle.desk_server.proofs.serve.show.Goals as goal

pub returns-clause-answer : goal.returns-clause-answer
returns-clause-answer g c =
    gives-shown _ c.args.desk.now.plan c.compute.new.desk c.args.id c.shown-shown.result
    c.compute.ensures.plan c.shown-shown.ensures

pub returns-then-ne-clause-answer : goal.returns-then-ne-clause-answer
returns-then-ne-clause-answer g c =
    gives-shown _ c.args.desk.now.plan c.args.desk.now c.args.id c.shown.result refl c.shown.ensures

pub returns-then-ne-clause-left : goal.returns-then-ne-clause-left
returns-then-ne-clause-left g c =
    let other : c.shown.result ≢ Pending = search rules in
    left_at_once _ c.args.desk.now c.args.id
    (not_pending c.args.desk.now c.args.id c.shown.result c.shown.ensures other)

pub returns-clause-left : goal.returns-clause-left
returns-clause-left g c =
    let h = c.compute.ensures in
    left_shown _ _ _ _ h.post.kind c.args.id _ (search rules) h.left h.explained h.given_up
