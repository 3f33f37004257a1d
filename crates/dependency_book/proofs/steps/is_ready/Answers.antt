use Rattle.dependency_book.proofs.Names.{ap, by_key, is_known, mark_rank, row_at, sym, ◌∙◌}
use Rattle.dependency_book.proofs.Readied.{ready_in}
use Rattle.dependency_book.proofs.Standing.{state_in}
use Rattle.dependency_book.proofs.steps.is_ready.Goals as goal

pub returns-in-Some : goal.returns-in-Some
returns-in-Some c =
    let rows = c.args.arrivals.now in
    c.is_known.ensures
    ∙ ap (λ o. is_known (state_in o))
    (sym c.in-Some.ensures ∙ ap (λ n. row_at (by_key mark_rank) n rows) c.rank.ensures)
    ∙ sym (ready_in rows c.args.mark (sym c.is_start.ensures ∙ c.if-is_start.false))

pub returns-in-None : goal.returns-in-None
returns-in-None c =
    let rows = c.args.arrivals.now in
    ap (λ o. is_known (state_in o))
    (sym c.in-None.ensures ∙ ap (λ n. row_at (by_key mark_rank) n rows) c.rank.ensures)
    ∙ sym (ready_in rows c.args.mark (sym c.is_start.ensures ∙ c.if-is_start.false))
