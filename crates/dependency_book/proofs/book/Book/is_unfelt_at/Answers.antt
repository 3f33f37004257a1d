use Rattle.dependency_book.proofs.Names.{Some, World, ap, sym, ◌∙◌}
use Rattle.dependency_book.proofs.book.Book.is_unfelt_at.Goals as goal

pub returns-in-Some : goal.returns-in-Some
returns-in-Some c =
    let known = rw (← c.self.view_is) at
    (c.in-Some.ensures ∙ ap (λ (w : World). Some w) (sym c.deref.ensures)) in
    rw (← c.self.view_is, known) c.lays_alike.ensures
