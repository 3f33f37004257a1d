use Rattle.dependency_book.proofs.Working.{cancel_is, may_free, put_cancels}
use Rattle.dependency_book.proofs.book.Book.forget.Goals as goal

pub returns-in_err-need-clause-right : goal.returns-in_err-need-clause-right
returns-in_err-need-clause-right c = c.expecting.ensures.right

pub release-requires : goal.release-requires
release-requires c =
    may_free c.in_ok-need.need c.expecting.ensures.right c.in_ok-need.ensures.row

pub returns-clause-event : goal.returns-clause-event
returns-clause-event c =
    cancel_is c.in_ok-need.need c.expecting.ensures.right c.in_ok-need.ensures.row c.release.new.self
    c.release.ensures.row

pub returns-clause-rows : goal.returns-clause-rows
returns-clause-rows c =
    put_cancels c.in_ok-need.need c.expecting.ensures.right c.in_ok-need.ensures.row c.release.new.self
    c.release.ensures.row

pub returns-clause-place : goal.returns-clause-place
returns-clause-place c =
    rw c.share-place.ensures (c.in_ok-need.ensures.own, (c.in_ok-need.need, c.in_ok-need.ensures.row))
