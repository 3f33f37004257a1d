use Rattle.dependency_book.proofs.Names.{steppable, sym, ◌∙◌}
use Rattle.dependency_book.proofs.Readied.{none_more}
use Rattle.dependency_book.proofs.steps.first_step.Goals as goal

pub loop-place-preserved : goal.loop-place-preserved
loop-place-preserved c =
    none_more (steppable c.args.document.now.branches c.args.arrivals.now) c.loop-place.place
    c.loop-place.invariant
    (λ x. sym (c.can_step.ensures x) ∙ c.if-can_step.false)
