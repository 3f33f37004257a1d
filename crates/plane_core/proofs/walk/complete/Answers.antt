use Rattle.plane_core.proofs.Names.{List, Numbered, SquareRow, ap, arith, length, subst, sym, ◌+◌, ◌<◌, ◌^◌, ◌∙◌}
use Rattle.plane_core.proofs.Shared.Numbering.{number_row-empty, number_row-insert, few_more}
use Rattle.plane_core.proofs.walk.complete.Goals as goal

pub returns-then-eq-clause-rows : goal.returns-then-eq-clause-rows
returns-then-eq-clause-rows c = ap (λ (r : Numbered). r.rows) (number_row-empty c.args.row c.args.done.now.keys (sym c.eq.ensures ∙ c.if-eq.true))

pub returns-then-eq-clause-number : goal.returns-then-eq-clause-number
returns-then-eq-clause-number c = ap (λ (r : Numbered). r.number) (number_row-empty c.args.row c.args.done.now.keys (sym c.eq.ensures ∙ c.if-eq.true))

pub returns-clause-rows : goal.returns-clause-rows
returns-clause-rows c = ap (λ (r : Numbered). r.rows) (number_row-insert c.args.row c.args.done.now.keys (sym c.eq.ensures ∙ c.if-eq.false)) ∙ sym c.in-Ok.ensures.keys

pub returns-clause-number : goal.returns-clause-number
returns-clause-number c = ap (λ (r : Numbered). r.number) (number_row-insert c.args.row c.args.done.now.keys (sym c.eq.ensures ∙ c.if-eq.false)) ∙ ap (λ n. n + 1) (sym c.in-Ok.ensures.index)

pub returns-clause-few : goal.returns-clause-few
returns-clause-few c =
    let index = c.in-Ok.ensures.index in
    let less = few_more c.args.row c.args.done.now.keys (2 ^ 32) c.requires (omega (arith, index)) in
    subst (λ (rows : List SquareRow). length rows < 2 ^ 32) (sym c.in-Ok.ensures.keys) less
