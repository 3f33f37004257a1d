use Rattle.bookmarks.proofs.Names.{last_state, length, pos, state_at, take, ℕ, ◌*◌, ◌+ℤ◌, ◌+◌, ◌<◌, ◌≡◌}
use Rattle.bookmarks.proofs.window.set_states.Given as goal

abbrev pub invariant-loop-cell : goal.invariant-loop-cell
invariant-loop-cell l = record {
  size : length l.states ≡ length l.initial.states;
  shown : (x y : ℕ) → x < l.width → y * l.width + x < length l.initial.states → state_at l.states l.width x y ≡ last_state (take l.cell-index l.cells) (l.left +ℤ pos x) (l.top +ℤ pos y) 0;
}
