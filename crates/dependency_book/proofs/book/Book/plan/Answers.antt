use Rattle.dependency_book.proofs.Names.{BookState, asked_of, refl, subst}
use Rattle.dependency_book.specs.Planned.{HasRoomAfter}
use Rattle.dependency_book.proofs.book.Book.plan.Goals as goal

pub returns : goal.returns
returns c = record {
  is = refl;
  fits = c.requires;
  felt = c.in_ok-felt.ensures;
  room = subst (λ (d : BookState). HasRoomAfter d.plan (asked_of c.args.edit.now) c.in_ok-room.room)
      c.self.view_is c.in_ok-room.ensures;
}
