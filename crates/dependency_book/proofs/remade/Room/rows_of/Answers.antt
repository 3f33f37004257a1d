use Rattle.dependency_book.proofs.Names.{IdsRise, IsRanked, mark_rank, mark_stays, subst, sym, ◌∙◌}
use Rattle.dependency_book.proofs.Remaking.{keys-remade}
use Rattle.dependency_book.proofs.Standing.{ranked_by}
use Rattle.dependency_book.proofs.remade.Room.rows_of.Goals as goal

pub places_of-places-requires-clause-ranked : goal.places_of-places-requires-clause-ranked
places_of-places-requires-clause-ranked c =
    subst (IsRanked mark_rank) (sym (c.deref-2.ensures.value ∙ c.remade-arrivals.ensures))
    (ranked_by mark_rank _
    (subst (IdsRise mark_rank)
    (sym (keys-remade mark_rank
    (mark_stays c.args.document.now.branches c.args.felt) c.args.arrivals.items c.deref.result.now))
    (subst (IdsRise mark_rank) (sym c.deref.ensures.value) c.marks_of-marks.ensures.rise)))
