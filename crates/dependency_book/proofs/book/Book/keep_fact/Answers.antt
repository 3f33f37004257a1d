use Rattle.dependency_book.proofs.Names.{AddsOnly, AreGiven, BookState, Fact, IsGiven, Job, List, Some, ap, entry_of, refl, said, state_of, subst, sym, ◌∙◌, ◌≡◌}
use Rattle.revision_jobs.specs.declared.entry.Entry.TheVariants as entry
use Rattle.revision_jobs.specs.declared.entry.Step.{Step as Stepping}
use Rattle.dependency_book.proofs.Recalled.{given_too}
use Rattle.dependency_book.proofs.Working.{kept_noted}
use Rattle.dependency_book.proofs.book.Book.keep_fact.Goals as goal

-- the step of a job that was given is kept
given_still : (d : BookState) {e : BookState} (job : Job) (s : Stepping) (old new : List Fact) → d ≡ e → IsGiven e job
    → entry_of job.place ≡ entry.Step s → AreGiven d.entries old → AddsOnly s old new → AreGiven d.entries new
given_still d job s old new same given is was adds =
    given_too d.entries old new s job.number was adds
    ((subst (λ b. IsGiven b job) (sym same) given).entry ∙ ap (λ e. Some (said e)) is)

pub invariant_of-self : goal.invariant_of-self
invariant_of-self c =
    kept_noted _ _ _
    (given_still (state_of c.self.inside) c.args.parts.now.job c.in-Step.step _ _ c.self.view_is
    (c.if-not-gave.ensures.given refl) (sym c.at.ensures.entry ∙ c.in-Step.is) c.self.invariant.facts
    c.keep-kept.ensures.adds)
    c.self.invariant

pub invariant_of-self-else-is_err : goal.invariant_of-self-else-is_err
invariant_of-self-else-is_err c =
    kept_noted _ _ _
    (given_still (state_of c.self.inside) c.args.parts.now.job c.in-Step.step _ _ c.self.view_is
    (c.if-not-gave.ensures.given refl) (sym c.at.ensures.entry ∙ c.in-Step.is) c.self.invariant.facts
    c.keep-kept.ensures.adds)
    c.self.invariant
