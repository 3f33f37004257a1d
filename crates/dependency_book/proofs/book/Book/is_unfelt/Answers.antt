use Rattle.dependency_book.proofs.Names.{BookIsUnfelt, BookIsUnfeltWhere, BookState, IfOk-weaker, IsTrue, Some, ap, asked_of, touched_by, ◌↔◌, ◌∙◌, ◌≡◌}
use Rattle.dependency_book.proofs.Unfelt.{unfelt_later}
use Rattle.dependency_book.proofs.book.Book.is_unfelt.Goals as goal

pub returns : goal.returns
returns c =
    let d = c.args.self.now in
    let asked = asked_of c.args.edit.now in
    let t = c.in-Some.touched in
    let is : Some t ≡ touched_by d.plan asked =
    c.in-Some.ensures ∙ ap (λ (e : BookState). touched_by e.plan asked) c.self.view_is in
    let was = c.in_ok-is_unfelt_where.ensures.0 c.if-not-branch.false in
    IfOk-weaker c.is_unfelt_where-2.result (λ b. IsTrue b ↔ BookIsUnfeltWhere d asked t.branch t.is)
    (λ b. IsTrue b ↔ BookIsUnfelt d asked) (λ b same. unfelt_later d asked t b is was same)
    c.is_unfelt_where-2.ensures
