use Rattle.plain_steps.proofs.Names.{blank, cell, lay, state_at, take, unwrap_or, ℤ, ◌≡◌}
use Rattle.plain_steps.proofs.room.set_all.Given as goal

abbrev pub invariant-loop-cell : goal.invariant-loop-cell
invariant-loop-cell l = record {
  level : l.patch.level ≡ l.initial.patch.level;
  shown : (x y : ℤ) → unwrap_or (state_at l.patch x y) 0 ≡ cell (lay (take l.cell-index l.cells) blank) x y;
}
