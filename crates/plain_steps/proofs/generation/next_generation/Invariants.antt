use Rattle.plain_steps.proofs.Names.{HasAsked, take, ◌≡◌}
use Rattle.plain_steps.proofs.Next.{asked_for}
use Rattle.plain_steps.proofs.generation.next_generation.Given as goal

abbrev pub invariant-loop-cell : goal.invariant-loop-cell
invariant-loop-cell g l = record {
  level : l.asked.patch.level ≡ l.initial.asked.patch.level;
  asked : HasAsked (g.R.Next.meaning l.rule) l.now (asked_for (take l.cell-index l.cell-items)) l.asked;
}
