use Rattle.plane_core.proofs.Names.{LiesIn, Span, get_or, ℕ, ◌<◌}
use Rattle.plane_core.proofs.lay.are_in.Given as goal

abbrev pub invariant-loop-span : goal.invariant-loop-span
invariant-loop-span l = (k : ℕ) (d : Span) → k < l.span-index → LiesIn l.part (get_or l.spans k d)
