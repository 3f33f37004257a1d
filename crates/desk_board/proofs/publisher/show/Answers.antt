use Rattle.std.proofs.Common.{◌≡◌}
use Rattle.desk_board.proofs.Steps.{sees, last_shown}
use Rattle.desk_board.proofs.publisher.show.Goals as goal

pub publish_as-writer-requires : goal.publish_as-writer-requires
publish_as-writer-requires g c y is =
    let desk = c.append.new.self.desk in
    let shown : y ≡ c.args.next = last_shown y c.args.next _ _ _ c.in-Ok.ensures.pending is in
    let same : y.board ≡ desk.shown.value.board = rw (c.in-Ok.ensures.desk, shown) c.requires in
    sees desk.place.id _ desk.shown.value y same
