use Rattle.plane_core.proofs.Names.{IsOutOfRow, List, Strip, arith, subst, sym, ◌∙◌}
use Rattle.plane_core.proofs.Strips.{first_none, first-near, first-out, out-none}
use Rattle.plane_core.proofs.strip.is_in_row.Goals as goal

pub returns-in_default-clause-out : goal.returns-in_default-clause-out
returns-in_default-clause-out c = λ h. subst (λ (l : List Strip). IsOutOfRow l c.args.y) (sym (first_none c.args.strips.now c.in_default.ensures.value)) (out-none c.args.y)

pub returns-then-from-y-clause-out : goal.returns-then-from-y-clause-out
returns-then-from-y-clause-out c = λ h. first-out c.args.strips.now c.in-Some.first.now c.args.y c.in-Some.ensures.value (λ e. c.if-from-y.true (c.from.ensures ∙ e))

pub returns-clause-here : goal.returns-clause-here
returns-clause-here c = λ h x ahead. first-near c.args.strips.now c.in-Some.first.now x c.args.y c.in-Some.ensures.value ahead (omega arith) (sym c.from.ensures ∙ c.if-from-y.false)
