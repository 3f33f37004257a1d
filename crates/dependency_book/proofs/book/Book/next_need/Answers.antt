use Rattle.dependency_book.proofs.Names.{BookState, IfNone, IsNextView, Need, None, NothingOut, Option, pending_of, places_of, refl, subst, sym, ◌≡◌}
use Rattle.dependency_book.proofs.Outs.{held_by}
use Rattle.dependency_book.proofs.Needed.{none_pending}
use Rattle.dependency_book.proofs.book.Book.next_need.Goals as goal

pub returns-in_err-next_step-clause-settled : goal.returns-in_err-next_step-clause-settled
returns-in_err-next_step-clause-settled c =
    let d : BookState = c.next_step.new.self in
    subst (λ (o : Option Need). IfNone o (NothingOut d → pending_of d ≡ 0)) (sym c.from_residual.ensures)
    (none_pending (held_by d (places_of d.arrivals d.plan.bookmarks) refl c.next_step.ensures.right)
    (subst (λ (e : BookState). IsNextView e None) (sym c.next_step.ensures.same) c.in_default.ensures.next)
    c.in_err-next_step.ensures.next)
