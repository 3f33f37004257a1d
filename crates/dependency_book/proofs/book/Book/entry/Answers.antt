use Rattle.dependency_book.proofs.Names.{IfOk-weaker, Mark, Step, StepsTo, View, subst}
use Rattle.revision_jobs.specs.declared.entry.Entry.TheVariants as entry
use Rattle.dependency_book.proofs.Entering.{entry_workable}
use Rattle.dependency_book.proofs.book.Book.entry.Goals as goal

pub returns-in_ok-step_to-in-Step-clause-workable : goal.returns-in_ok-step_to-in-Step-clause-workable
returns-in_ok-step_to-in-Step-clause-workable c =
    let s = c.in_ok-step_to-in-Step.field-0 in
    entry_workable c.args.self.now (Step c.in-Step.branch c.in-Step.mark) (entry.Step s)
    c.step_to.ensures.right
    (subst (λ (m : Mark). StepsTo c.args.self.now m s) c.at.ensures c.in_ok-step_to-in-Step.ensures.step)

pub returns-in-View-clause-workable : goal.returns-in-View-clause-workable
returns-in-View-clause-workable c =
    IfOk-weaker c.view_of.result _ _
    (λ e h. entry_workable c.args.self.now (View c.in-View.id) e c.view_of.ensures.right h)
    c.view_of.ensures.entry
