use Rattle.plain_steps.proofs.Names.{AsksMore, places_around, take}
use Rattle.plain_steps.proofs.asked.ask_around.Given as goal

abbrev pub invariant-loop-offset : goal.invariant-loop-offset
invariant-loop-offset g l = AsksMore (g.R.Next.meaning l.rule) l.now (take l.offset-index (places_around (l.spot.y, l.spot.x))) l.initial.asked l.asked
