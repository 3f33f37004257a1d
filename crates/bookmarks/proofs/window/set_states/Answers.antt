use Rattle.bookmarks.proofs.Names.{Fits, SFits, arith, get_or, last_state, length, length-set, of_z, pos, refl, rules, state_at, subst, sym, take, to_z, w64, ℕ, ◌*◌, ◌+ℤ◌, ◌+◌, ◌<◌, ◌∙◌, ◌≡◌}
use Rattle.bookmarks.proofs.Places.{no_cell, number, shown-set}
use Rattle.bookmarks.proofs.window.set_states.Goals as goal

pub overflow_add-states : goal.overflow_add-states
overflow_add-states c =
    let i = c.loop-cell.cell-index in
    let cells = c.args.cells.now in
    let below : i < length cells = omega arith in
    let here = c.requires.held i no_cell below in
    let fx : SFits w64 (get_or cells i no_cell).x = search rules in
    let fy : SFits w64 (get_or cells i no_cell).y = search rules in
    let is = number c.args.left c.args.top c.args.width (length c.args.states.now) (get_or cells i no_cell) c.ranges.left c.ranges.top fx fy c.requires.small here in
    let listed = here.listed in
    let small = c.requires.small in
    subst (Fits w64) (sym is) (omega (arith, listed, small))

pub bounds-states-row : goal.bounds-states-row
bounds-states-row c =
    let i = c.loop-cell.cell-index in
    let cells = c.args.cells.now in
    let below : i < length cells = omega arith in
    let here = c.requires.held i no_cell below in
    let fx : SFits w64 (get_or cells i no_cell).x = search rules in
    let fy : SFits w64 (get_or cells i no_cell).y = search rules in
    let is = number c.args.left c.args.top c.args.width (length c.args.states.now) (get_or cells i no_cell) c.ranges.left c.ranges.top fx fy c.requires.small here in
    let listed = here.listed in
    let size = c.loop-cell.invariant.size in
    subst (λ n. n < length c.loop-cell.states) (sym is) (omega (arith, listed, size))

pub loop-cell-preserved : goal.loop-cell-preserved
loop-cell-preserved c =
    let i = c.loop-cell.cell-index in
    let cells = c.args.cells.now in
    let states = c.loop-cell.states in
    let size = length c.args.states.now in
    let below : i < length cells = omega arith in
    let here = c.requires.held i no_cell below in
    let fx : SFits w64 (get_or cells i no_cell).x = search rules in
    let fy : SFits w64 (get_or cells i no_cell).y = search rules in
    let is = number c.args.left c.args.top c.args.width size (get_or cells i no_cell) c.ranges.left c.ranges.top fx fy c.requires.small here in
    let s = (get_or cells i no_cell).state in
    let left : to_z w64 (of_z w64 c.args.left) ≡ c.args.left = search rules in
    let top : to_z w64 (of_z w64 c.args.top) ≡ c.args.top = search rules in
    let before : (x y : ℕ) → x < c.args.width → y * c.args.width + x < size → state_at states c.args.width x y ≡ last_state (take i cells) (c.args.left +ℤ pos x) (c.args.top +ℤ pos y) 0 =
    λ x y inside held. c.loop-cell.invariant.shown x y inside held ∙ (λ k. last_state (take i cells) (left k +ℤ pos x) (top k +ℤ pos y) 0) in
    let listed = (let at = here.listed in subst (λ n. n < size) (sym is) (omega (arith, at))) in
    record {
      size = length-set states _ s ∙ c.loop-cell.invariant.size;
      shown = λ x y inside held.
          shown-set states _ cells i _ no_cell c.args.left c.args.top c.args.width size here.column here.row below c.loop-cell.invariant.size here.across here.down here.narrow is listed before refl x y inside held
          ∙ (λ k. last_state (take (i + 1) cells) (sym left k +ℤ pos x) (sym top k +ℤ pos y) 0);
    }
