use Rattle.dependency_book.proofs.Names.{ArrivalRow, Empty}
use Rattle.dependency_book.proofs.Found.{step_row}
use Rattle.dependency_book.proofs.book.Book.before.Goals as goal

pub before_row-requires : goal.before_row-requires
before_row-requires c =
    let row = step_row c.self.invariant.held c.args.mark (rw (← c.self.view_is) at c.requires) in
    rw (c.place_in-place.ensures, c.rank.ensures, c.deref.ensures.value, c.deref-2.ensures.value) row.low

pub returns : goal.returns
returns c =
    let row = step_row c.self.invariant.held c.args.mark (rw (← c.self.view_is) at c.requires) in
    let x : ArrivalRow = record { key = c.args.mark; state = Empty } in
    let is =
    rw (c.place_in-place.ensures, c.rank.ensures, c.deref.ensures.value, c.deref-2.ensures.value)
    at (c.before_row.ensures x) in
    record {
      mark = rw (is, ← c.self.view_is) (row.comes x);
      known = rw (is, ← c.self.view_is) (row.arrived x);
    }
