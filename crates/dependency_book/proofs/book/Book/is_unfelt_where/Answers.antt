use Rattle.dependency_book.proofs.Names.{BookIsUnfeltAt, BookState, ap, asked_of, clash, false, generations_to, reach, refl, subst, sym, ◌∙◌}
use Rattle.dependency_book.proofs.Unfelt.{each_done, each_felt, each_next, where_each}
use Rattle.dependency_book.proofs.book.Book.is_unfelt_where.Goals as goal

pub loop-generation-init : goal.loop-generation-init
loop-generation-init c =
    where_each c.args.self.now (asked_of c.args.edit.now) c.args.branch c.args.acts
    c.into_iter-generation-iterator.result
    (c.into_iter-generation-iterator.ensures.into_iter_gives ∙ c.generations_to-generation-items.ensures
    ∙ ap (λ far. generations_to far c.args.acts)
    (c.reach.ensures ∙ ap (λ (d : BookState). reach d.plan c.args.branch) c.self.view_is))

pub loop-generation-preserved : goal.loop-generation-preserved
loop-generation-preserved c =
    let d = c.args.self.now in
    let asked = asked_of c.args.edit.now in
    each_next d asked c.args.branch c.in-Some.generation c.loop-generation.generation-iterator c.next.new.self
    c.in-Some.ensures.steps
    (subst (BookIsUnfeltAt d asked) c.at.ensures (c.in_ok-is_unfelt_at.ensures.0 c.if-not-branch.false))
    c.loop-generation.invariant

pub returns-then-not-branch : goal.returns-then-not-branch
returns-then-not-branch c =
    let d = c.args.self.now in
    let asked = asked_of c.args.edit.now in (
      λ yes. clash false yes refl,
      λ h. absurd (each_felt d asked c.args.branch c.in-Some.generation c.loop-generation.generation-iterator
          c.next.new.self c.in-Some.ensures.steps
          (λ at. clash c.in_ok-is_unfelt_at.field-0
          (c.in_ok-is_unfelt_at.ensures.1 (subst (BookIsUnfeltAt d asked) (sym c.at.ensures) at))
          c.if-not-branch.true)
          c.loop-generation.invariant h),
    )

pub returns : goal.returns
returns c = (
  λ _. each_done c.args.self.now (asked_of c.args.edit.now) c.args.branch
      c.loop-generation.generation-iterator
      c.in-None.ensures.steps.0 c.loop-generation.invariant,
  λ _. refl,
)
