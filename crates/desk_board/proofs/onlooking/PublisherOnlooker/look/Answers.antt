use Rattle.desk_board.proofs.Pictures.{shows_next}
use Rattle.desk_board.proofs.onlooking.PublisherOnlooker.look.Goals as goal

pub returns-clause-seen : goal.returns-clause-seen
returns-clause-seen g c = λ _.
    shows_next c.args.self.now c.publish.new.self c.in-Ok.snapshot c.args.desk.now c.in-Ok.ensures.desk c.in-Ok.ensures.right
    c.in-Ok-publish.ensures.appends
