use Rattle.dependency_book.proofs.Names.{index_of, length-map, said_at, sym, ◌∙◌}
use Rattle.std.proofs.lemmas.List.{map-append}
use Rattle.dependency_book.proofs.Working.{issue_is, kept_more, may_await}
use Rattle.dependency_book.proofs.book.Book.expect.Goals as goal

pub invariant_of-self-2 : goal.invariant_of-self-2
invariant_of-self-2 c =
    rw (c.in_ok-push.ensures.items, c.share.ensures, map-append said_at, map-append index_of)
    (kept_more (rw (← c.self.view_is) at c.requires) c.self.invariant)

pub await_job-requires : goal.await_job-requires
await_job-requires c =
    let issued = c.self.inside.issued.items in
    rw (c.in_ok-push.ensures.items, c.share.ensures, map-append said_at, map-append index_of)
    (may_await (rw (← c.self.view_is) at c.requires) (length-map issued index_of ∙ sym (length-map issued said_at))
    c.self.invariant.held.right)

pub returns-clause-issued : goal.returns-clause-issued
returns-clause-issued c =
    rw (← c.self.view_is)
    (issue_is (rw (← c.self.view_is) at c.requires) c.await_job.new.self
    (rw (c.in_ok-push.ensures.items, c.share.ensures, map-append said_at, map-append index_of)
    at c.await_job.ensures.row))
