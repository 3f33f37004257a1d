use Rattle.dependency_book.proofs.Names.{Learns, TakesAnswer, clash, subst, sym, with_facts, ◌≡◌}
use Rattle.dependency_book.specs.declared.filled.Filled.TheVariants.{Row}
use Rattle.dependency_book.proofs.Recalled.{Filling, filled_alone, filled_then, took}
use Rattle.dependency_book.proofs.book.Book.fill.Goals.{in-Row, in_default}
use Rattle.dependency_book.proofs.book.Book.fill.Goals as goal

pub returns-then-matches : goal.returns-then-matches
returns-then-matches c =
    let old = c.args.self.now in
    let new = c.recall_all.new.self in
    let kept = c.keep_fact.new.self in
    let taken = took old c.keep_fact.ensures.same c.into_parts-parts.ensures.parts c.take-filled.ensures.takes in
    let row : c.take-filled.result ≡ Row =
    elim c.match-matches.branch [
      | in-Row w ↦ w.in-Row.is
      | in_default w ↦ absurd
          (clash c.match-matches.matches c.if-matches.true w.matches-is)
    ] in
    let h = subst (Filling c.args.answer old new) (sym row)
    (filled_then kept.facts kept.missed
    (subst (λ a. Learns a old kept) c.into_parts-parts.ensures.parts c.keep_fact.ensures.learns)
    (subst (TakesAnswer c.args.answer (with_facts old kept.facts kept.missed) c.take-filled.new.self) row taken)
    c.recall_all.ensures.all c.keep_fact.ensures.missed) in
    assumption (h, c.recall_all.ensures.right)

pub returns-else-matches : goal.returns-else-matches
returns-else-matches c =
    let other : c.take-filled.result ≡ Row → ⊥ =
    elim c.match-matches.branch [
      | in-Row w ↦ absurd
          (clash c.match-matches.matches w.matches-is c.if-matches.false)
      | in_default w ↦ w.in_default.not-Row
    ] in
    let old = c.args.self.now in
    let kept = c.keep_fact.new.self in
    let h : Filling c.args.answer old c.take-filled.new.self c.take-filled.result =
    filled_alone kept.facts kept.missed
    (subst (λ a. Learns a old kept) c.into_parts-parts.ensures.parts c.keep_fact.ensures.learns)
    c.take-filled.result other
    (took old c.keep_fact.ensures.same c.into_parts-parts.ensures.parts c.take-filled.ensures.takes) in
    assumption (h, c.take-filled.ensures.right)
