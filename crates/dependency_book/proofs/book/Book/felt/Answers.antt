use Rattle.dependency_book.proofs.Names.{BookState, ap, asked_of, clash, felt_from, inr, ◌∙◌}
use Rattle.dependency_book.proofs.book.Book.felt.Goals as goal

pub returns : goal.returns
returns c =
    let asked = asked_of c.args.edit.now in
    inr (
      λ unfelt. clash c.in_ok-is_unfelt.field-0 (c.in_ok-is_unfelt.ensures.1 unfelt) c.if-branch.false,
      c.felt_from.ensures ∙ ap (λ (d : BookState). felt_from d.plan asked) c.self.view_is,
    )
