use Rattle.std.proofs.Common.{◌∙◌, Ok, ap}
use Rattle.table_lines.proofs.Unions.{so_far-none, so_far-below, so_far-high, so_far-all}
use Rattle.table_lines.proofs.variables.Variables.set_of.Goals as goal

pub loop-member-init : goal.loop-member-init
loop-member-init c = rw c.empty-set.ensures (so_far-none _ _ _ _)

pub loop-member-preserved-in-Some-2 : goal.loop-member-preserved-in-Some-2
loop-member-preserved-in-Some-2 c =
    rw c.unite.ensures (so_far-below _ _ _ _ _ _ _ _ _ (rw c.in-Some.ensures at c.loop-member.invariant) (c.in_ok-more.ensures ∙ ap Ok c.in-Some-2.is))

pub loop-member-preserved : goal.loop-member-preserved
loop-member-preserved c = so_far-high _ _ _ _ _ _ _ _ (rw c.in-Some.ensures at c.loop-member.invariant) (c.in_ok-more.ensures ∙ ap Ok c.in-None.is)

pub returns-then-are_below : goal.returns-then-are_below
returns-then-are_below c = so_far-all _ _ _ _ _ (rw (c.in_default.ensures, c.if-are_below.true) at c.loop-member.invariant)
