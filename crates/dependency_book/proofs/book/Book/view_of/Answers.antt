use Rattle.dependency_book.proofs.Names.{Some, World, ap, refl, sym, ◌∙◌}
use Rattle.dependency_book.proofs.Found.{has_view_row, view_row}
use Rattle.dependency_book.proofs.book.Book.view_of.Goals as goal

pub unreachable-requires : goal.unreachable-requires
unreachable-requires c =
    has_view_row c.self.invariant.held c.args.id (rw (← c.self.view_is) at c.requires)
    (rw (c.from.ensures, c.deref.ensures.value) at c.in_default.ensures)

pub arrived-requires : goal.arrived-requires
arrived-requires c =
    let row = view_row c.self.invariant.held c.args.id c.in-Some.row.now (rw (← c.self.view_is) at c.requires)
    (rw (c.from.ensures, c.deref.ensures.value) at c.in-Some.ensures) in
    rw (c.of-mark.ensures, ← c.self.view_is) row.arrived

pub returns-clause-entry : goal.returns-clause-entry
returns-clause-entry c =
    let row = view_row c.self.invariant.held c.args.id c.in-Some.row.now (rw (← c.self.view_is) at c.requires)
    (rw (c.from.ensures, c.deref.ensures.value) at c.in-Some.ensures) in
    let known = c.arrived.ensures ∙ ap (λ (w : World). Some w) (sym c.in_ok-try_clone.ensures) in
    record {
      bookmark = c.in-Some.row.now.key;
      there = rw (← c.self.view_is) row.there;
      view = refl;
      from = rw c.of-mark.ensures at known;
      cells = rw (
        c.in_ok-cells.ensures,
        c.of-mark.ensures,
        c.interventions-interventions.ensures,
        ←
            c.self.view_is,
      )
          refl;
      name = rw (
        c.in_ok-name.ensures,
        c.name.ensures,
        c.deref-2.ensures,
        c.rule-rule.ensures,
        ←
            c.self.view_is,
      ) refl;
      states = rw (c.states.ensures.count, c.deref-3.ensures, c.rule-rule.ensures, ← c.self.view_is) refl;
      generation = refl;
    }
