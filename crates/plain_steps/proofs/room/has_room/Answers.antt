use Rattle.plain_steps.proofs.Names.{arith, false, ints, sym, true, ◌∙◌, ◌≡◌}
use Rattle.plain_steps.proofs.room.has_room.Goals as goal

pub returns-then-holds : goal.returns-then-holds
returns-then-holds c = (
  λ yes. let corner = c.holds.ensures.0 c.if-holds.true in let opposite = c.holds-then-holds.ensures.0 yes in omega (arith, ints),
  λ room. c.holds-then-holds.ensures.1 (omega (arith, ints)),
)

pub returns-else-holds : goal.returns-else-holds
returns-else-holds c = (
  λ yes. absurd (let no : true ≡ false = sym yes ∙ c.if-holds.false in cc),
  λ room. c.holds.ensures.1 (omega (arith, ints)),
)
