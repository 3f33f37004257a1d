use Rattle.dependency_book.proofs.Names.{ArrivalRow, BookState, Mark, Option, Some, World, ap, arrival_known, by_key, false, is_start, known, mark_rank, refl, row_at, state_of, sym, ◌∙◌, ◌≡◌}
use Rattle.dependency_book.proofs.Placed.{arrival_in}
use Rattle.dependency_book.proofs.Standing.{state_in}
use Rattle.dependency_book.proofs.book.Book.known_at.Goals as goal

-- what is known at a mark is what the row of its rank says
known_by : (d : BookState) (m : Mark) {o : Option ArrivalRow} {w : Option World} → is_start m ≡ false
    → row_at (by_key mark_rank) (mark_rank m) d.arrivals ≡ o → known (state_in o) ≡ w → arrival_known d m ≡ w
known_by d m beside found says = ap known (arrival_in d m beside ∙ ap state_in found) ∙ says

pub returns-in-Some-known : goal.returns-in-Some-known
returns-in-Some-known c =
    rw (← c.self.view_is)
    (known_by (state_of c.self.inside) c.args.mark (sym c.is_start.ensures ∙ c.if-is_start.false)
    (rw (c.rank.ensures, c.deref.ensures.value) at c.in-Some.ensures)
    (c.in-Some-known.ensures ∙ ap (λ (w : World). Some w) (sym c.plane.ensures)))

pub returns-in-None-known : goal.returns-in-None-known
returns-in-None-known c =
    rw (← c.self.view_is)
    (known_by (state_of c.self.inside) c.args.mark (sym c.is_start.ensures ∙ c.if-is_start.false)
    (rw (c.rank.ensures, c.deref.ensures.value) at c.in-Some.ensures) c.in-None-known.ensures)

pub returns-in-None : goal.returns-in-None
returns-in-None c =
    rw (← c.self.view_is)
    (known_by (state_of c.self.inside) c.args.mark (sym c.is_start.ensures ∙ c.if-is_start.false)
    (rw (c.rank.ensures, c.deref.ensures.value) at c.in-None.ensures) refl)
