use Rattle.plane_core.proofs.Names.{IsReach, List, Strip, arith, subst, sym, ◌^◌, ◌∙◌}
use Rattle.plane_core.proofs.Strips.{first_none, first-other, first-gap, first-here, reach-none}
use Rattle.plane_core.proofs.strip.reach_at.Goals as goal

pub returns-in_default : goal.returns-in_default
returns-in_default c =
    subst (λ (l : List Strip). IsReach l c.args.x c.args.y 0 (2 ^ 32)) (sym (first_none c.args.strips.now c.in_default.ensures.value)) (reach-none c.args.x c.args.y c.requires.x)

pub returns-then-from-y : goal.returns-then-from-y
returns-then-from-y c = first-other c.args.strips.now c.in-Some.first.now c.args.x c.args.y c.in-Some.ensures.value c.requires.ahead c.requires.x (λ e. c.if-from-y.true (c.from.ensures ∙ e))

pub returns-then-x-from : goal.returns-then-x-from
returns-then-x-from c =
    first-gap c.args.strips.now c.in-Some.first.now c.args.x c.args.y c.in-Some.ensures.value c.requires.ahead c.min.result (omega arith) (omega arith) (omega arith) (omega arith) (omega arith) (λ few. omega arith)

pub returns : goal.returns
returns c = first-here c.args.strips.now c.in-Some.first.now c.args.x c.args.y c.in-Some.ensures.value c.requires.ahead c.from-end.result c.from-end.ensures (omega arith) (omega arith) (omega arith)
