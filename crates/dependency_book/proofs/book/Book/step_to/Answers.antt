use Rattle.dependency_book.proofs.Names.{Some, ap, arith, comes_le, refl, sym, ◌∙◌}
use Rattle.dependency_book.proofs.book.Book.step_to.Goals as goal

pub returns-clause-step : goal.returns-clause-step
returns-clause-step c =
    let le = comes_le c.args.self.now.plan c.before-before.result c.args.mark c.before-before.ensures.mark in
    record {
      noted = c.requires.is;
      before = c.before-before.result;
      comes = c.before-before.ensures.mark;
      rule = rw (c.in_ok-try_clone.ensures, c.rule.ensures, ← c.self.view_is) refl;
      from = c.arrived.ensures ∙ ap (λ w. Some w) (sym c.in_ok-try_clone-2.ensures);
      cells = rw (c.in_ok-cells.ensures, c.interventions-interventions.ensures, ← c.self.view_is) refl;
      gap = omega (arith, le);
    }

pub overflow_sub-result : goal.overflow_sub-result
overflow_sub-result c =
    let le = comes_le c.args.self.now.plan c.before-before.result c.args.mark c.before-before.ensures.mark in
    omega (arith, le)
