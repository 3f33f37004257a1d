-- How many numbers were given.
use Rattle.desk_core.proofs.Names.{BookState, IssuesFor, Job, Need, SameBook, [], ap, given_of, length, ◌+◌, ◌∙◌, ◌∷◌, ◌≡◌}
use Rattle.std.proofs.Common.{length-append}
use Rattle.dependency_book.specs.Said.{said_at}

-- none more
pub same_given : {old new : BookState} → SameBook old new → given_of new ≡ given_of old
same_given same = ap (λ es. length es) same.entries

-- and one more where a job is issued
pub issued_given : {old new : BookState} {job : Job} {need : Need} → IssuesFor old new job need
    → given_of new ≡ given_of old + 1
issued_given {old} {new} {job} issued =
    ap (λ es. length es) issued.is.entries ∙ length-append old.entries (said_at job.place ∷ [])
