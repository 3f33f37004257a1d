use Rattle.dependency_book.proofs.Names.{ap, arith, clash, pattern, refl, state_map, sym, ◌∙◌}
use Rattle.dependency_book.proofs.Found.{held_back}
use Rattle.dependency_book.proofs.Left.{looks_only}
use Rattle.dependency_book.proofs.Needed.{reached_at, steps_there}
use Rattle.dependency_book.proofs.book.Book.recall_at.Goals as goal

pub can_step-requires-clause-held_back : goal.can_step-requires-clause-held_back
can_step-requires-clause-held_back c = rw c.deref.ensures.value (held_back c.self.invariant.held)

pub recall-requires : goal.recall-requires
recall-requires c =
    let x = c.index.result.now in
    let low = rw (← c.self.view_is) at c.requires in
    let can = rw c.deref.ensures.value at (sym (c.can_step.ensures x) ∙ c.if-not-can_step.false) in
    let there = steps_there c.self.invariant.held c.args.place x c.index.ensures low can in
    record {
      led = rw (← c.self.view_is) there.led;
      empty = rw (← c.self.view_is) (ap (state_map pattern) there.empty);
    }

pub returns-then-not-can_step-clause-looks : goal.returns-then-not-can_step-clause-looks
returns-then-not-can_step-clause-looks c = λ x.
    let low = rw (← c.self.view_is) at c.requires in
    let off = rw c.deref.ensures.value at (sym (c.can_step.ensures x) ∙ c.if-not-can_step.true) in
    looks_only {d = c.args.self.now} {e = c.args.self.now} refl (λ s. refl) (omega arith)
    (λ same can. clash _
    (reached_at c.self.invariant.held c.args.place x low (rw (← c.self.view_is) at can)) off)
