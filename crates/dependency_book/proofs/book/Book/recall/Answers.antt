use Rattle.dependency_book.proofs.Names.{Arc, AreGiven, BookState, Empty, Fact, Global, IfSome, IsLedTo, IsSome, List, LooksUp, Mark, Option, Some}
use Rattle.dependency_book.proofs.Names.{StepsTo, WasGiven, World, ap, arc_value, arith, option_map, refl, row_of, state_of, step_to, subst}
use Rattle.dependency_book.proofs.Names.{sym, with_facts, world_after, ◌∙◌, ◌≡◌}
use Rattle.step_facts.specs.Known.{known}
use Rattle.revision_jobs.specs.declared.entry.Step.{Step as Stepping}
use Rattle.dependency_book.proofs.Recalled.{CanBeEntered, can_enter, given_before}
use Rattle.dependency_book.proofs.Left.{looks_found, looks_only, none_known}
use Rattle.dependency_book.proofs.Working.{kept_noted, may_change, right_noted}
use Rattle.dependency_book.proofs.book.Book.recall.Goals as goal

right_one : (found : Option (Arc World Global)) (plane : Arc World Global) (s : Stepping) → found ≡ Some plane
    → IfSome found (λ p. arc_value p ≡ world_after s) → arc_value plane ≡ world_after s
right_one found plane s is h = subst (λ o. IfSome o (λ p. arc_value p ≡ world_after s)) is h

-- the step is what is to be computed for the mark, and was given before
can_be_entered : (facts : List Fact) {d e : BookState} {mark : Mark} {s : Stepping}
    {found : Option (Arc World Global)}
    {plane : Arc World Global} → d ≡ e → AreGiven d.entries facts → IsLedTo e mark
    → row_of e (step_to mark) ≡ Empty
    → StepsTo e mark s → found ≡ Some plane → option_map (λ p. arc_value p) found ≡ known facts s
    → CanBeEntered d mark s
can_be_entered facts {d} {e} {mark} {s} {found} {plane} same given led empty own is knows =
    subst (λ b. CanBeEntered b mark s) (sym same) (record {
      there = may_change e.plan mark led.above led.is;
      empty = empty;
      own = own;
      earlier = subst (λ (b : BookState). WasGiven b.entries s) same
          (given_before d.entries facts s found plane given is knows);
    })

pub put_arrival-requires : goal.put_arrival-requires
put_arrival-requires c =
    let h = can_be_entered c.self.inside.facts.list c.self.view_is c.self.invariant.facts c.requires.led
    c.requires.empty c.in-Ok.ensures.step c.in-Some.is c.in-Ok-recall.ensures.known in
    let can = can_enter h c.of.result c.self.invariant.held.right
    (c.of.ensures
    ∙ right_one c.in-Ok-recall.found c.in-Some.plane c.in-Ok.step c.in-Some.is c.in-Ok-recall.ensures.right) in
    record { there = can.there; right = can.right; out = tt }

pub returns-clause-looks : goal.returns-clause-looks
returns-clause-looks c =
    let h = can_be_entered c.self.inside.facts.list c.self.view_is c.self.invariant.facts c.requires.led
    c.requires.empty c.in-Ok.ensures.step c.in-Some.is c.in-Ok-recall.ensures.known in
    subst (λ d. LooksUp c.args.mark d c.put_arrival.new.self) c.self.view_is
    (looks_found c.of.result c.recall.new.self.list h
    (c.of.ensures
    ∙ right_one c.in-Ok-recall.found c.in-Some.plane c.in-Ok.step c.in-Some.is c.in-Ok-recall.ensures.right)
    c.recall.ensures.others c.put_arrival.ensures.row)

pub returns-clause-right : goal.returns-clause-right
returns-clause-right c = c.put_arrival.ensures.right

-- there was no memory for the step

pub invariant_of-self : goal.invariant_of-self
invariant_of-self c = kept_noted _ _ _ c.self.invariant.facts c.self.invariant

pub returns-in_default-clause-looks : goal.returns-in_default-clause-looks
returns-in_default-clause-looks c =
    let more = c.note.ensures in
    let d = state_of c.self.inside in
    let e = with_facts d d.facts c.note.new.self in
    subst (λ b. LooksUp c.args.mark b e) c.self.view_is
    (looks_only {d = d} {e = e} refl (λ s. refl) (omega (arith, more)) (λ same. absurd (omega (arith, same, more))))

pub returns-in_default-clause-right : goal.returns-in_default-clause-right
returns-in_default-clause-right c = right_noted _ _ _ _ c.self.invariant.held.right

-- nor for what is found

pub invariant_of-self-in_default-recall : goal.invariant_of-self-in_default-recall
invariant_of-self-in_default-recall c =
    kept_noted _ _ _ (λ s there. c.self.invariant.facts s (subst IsSome (c.recall.ensures.others s) there))
    c.self.invariant

pub returns-in_default-recall-clause-looks : goal.returns-in_default-recall-clause-looks
returns-in_default-recall-clause-looks c =
    let more = c.note-in_default-recall.ensures in
    let d = state_of c.self.inside in
    let e = with_facts d c.recall.new.self.list c.note-in_default-recall.new.self in
    subst (λ b. LooksUp c.args.mark b e) c.self.view_is
    (looks_only {d = d} {e = e} refl c.recall.ensures.others (omega (arith, more))
    (λ same. absurd (omega (arith, same, more))))

pub returns-in_default-recall-clause-right : goal.returns-in_default-recall-clause-right
returns-in_default-recall-clause-right c = right_noted _ _ _ _ c.self.invariant.held.right

-- or nothing is found

pub invariant_of-self-in-Ok-recall : goal.invariant_of-self-in-Ok-recall
invariant_of-self-in-Ok-recall c =
    kept_noted _ _ _ (λ s there. c.self.invariant.facts s (subst IsSome (c.recall.ensures.others s) there))
    c.self.invariant

pub returns-in_default-found-clause-looks : goal.returns-in_default-found-clause-looks
returns-in_default-found-clause-looks c =
    let own = subst (λ d. StepsTo d c.args.mark c.in-Ok.step) (sym c.self.view_is) c.in-Ok.ensures.step in
    let none = sym c.in-Ok-recall.ensures.known ∙ ap (option_map (λ p. arc_value p)) c.in_default-found.is in
    let d = state_of c.self.inside in
    let e = with_facts d c.recall.new.self.list d.missed in
    subst (λ b. LooksUp c.args.mark b e) c.self.view_is
    (looks_only {d = d} {e = e} refl c.recall.ensures.others (omega arith)
    (λ same can. none_known d e c.in-Ok.step refl c.recall.ensures.others c.self.invariant.held.right.core.sound own
    none))

pub returns-in_default-found-clause-right : goal.returns-in_default-found-clause-right
returns-in_default-found-clause-right c = right_noted _ _ _ _ c.self.invariant.held.right
