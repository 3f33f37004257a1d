use Rattle.dependency_book.proofs.Names.{EntersSteps, IsRightBook, Remembers, length, ◌≡◌, ◌≤◌}
use Rattle.dependency_book.proofs.Left.{LeavesNoneBefore}
use Rattle.dependency_book.proofs.book.Book.recall_all.Given as goal

abbrev pub invariant-loop-place : goal.invariant-loop-place
invariant-loop-place l = record {
  recalls : EntersSteps l.fn.self l.self;
  remembers : Remembers l.fn.self l.self;
  missed : l.fn.self.missed ≤ l.self.missed;
  none : l.self.missed ≡ l.fn.self.missed → LeavesNoneBefore l.self l.place;
  right : IsRightBook l.self;
  end : l.place-end ≡ length l.self.arrivals;
}
