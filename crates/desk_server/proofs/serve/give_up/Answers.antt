use Rattle.desk_server.proofs.Names.{IsFirstOut, arith, rules, subst, sym, ◌<◌, ◌^◌, ◌∙◌}
use Rattle.desk_core.proofs.Shared.Causes.{explains-cancelled}
use Rattle.desk_server.proofs.Calls.{keeps_calls}
use Rattle.desk_server.proofs.Jobs.{drops_none, drops_drops, cancel_drops, first_falls, known_stays, numbers_from}
use Rattle.desk_server.proofs.serve.give_up.Goals as goal

pub loop-first-init : goal.loop-first-init
loop-first-init c = grind (arith, drops_none)

pub loop-first-smaller : goal.loop-first-smaller
loop-first-smaller c =
    let few : c.in-Some.number < 2 ^ 32 = search rules in
    let first = subst (IsFirstOut c.loop-first.desk) c.in-Some.is c.loop-first.invariant.first in
    subst (λ o. numbers_from c.first_out-first-in-Some.result < numbers_from o) (sym c.in-Some.is)
    (first_falls c.in-Some.number c.first_out-first-in-Some.result c.loop-first.desk c.cancel.new.self few
    c.cancel.ensures.rows first c.first_out-first-in-Some.ensures)

pub loop-first-preserved : goal.loop-first-preserved
loop-first-preserved c = record {
  plan = c.cancel.ensures.book.document.plan ∙ c.loop-first.invariant.plan;
  drops = drops_drops _ _ _ c.loop-first.invariant.drops
      (cancel_drops _ _ _ c.cancel.ensures.rows c.cancel.ensures.book);
  causes = λ limit first answers cause h. explains-cancelled limit first c.loop-first.desk c.cancel.new.self
      c.cancel.ensures.book answers cause (c.loop-first.invariant.causes limit first answers cause h);
  calls = λ p q first cause h.
      keeps_calls c.in-Some.number c.loop-first.desk c.cancel.new.self
      (record { rows = c.cancel.ensures.rows; book = c.cancel.ensures.book; event = c.cancel.ensures.event })
      p q first cause (c.loop-first.invariant.calls p q first cause h);
  known = λ need value is.
      known_stays c.in-Some.number value _ _ (c.cancel.ensures.rows need) (c.loop-first.invariant.known need value is);
  right = λ _. c.cancel.ensures.right;
  first = c.first_out-first-in-Some.ensures;
}
