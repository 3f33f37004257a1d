use Rattle.bookmarks.proofs.Names.{All, All-weaker, Cell, IsIn, IsLiveWithin, List, ShowsWindow, ap, arith, drop, ints, last_state, length, of_z, pos, refl, rules, subst, sym, take, take_at, to_z, w64, ◌*◌, ◌++◌, ◌+ℤ◌, ◌∙◌, ◌≡◌}
use Rattle.bookmarks.proofs.Places.{spanned, is_in, last-within, number_below}
use Rattle.bookmarks.proofs.window.states_of.Goals as goal

pub set_states-requires-clause-held : goal.set_states-requires-clause-held
set_states-requires-clause-held c =
    let w = c.args.plane.now in
    let cells = c.in_ok-cells.cells.items in
    let across = spanned c.args.left c.args.width c.requires.inside.0 in
    let down = spanned c.args.top c.args.height c.requires.inside.1 in
    let low = across.0 in let high = across.1 in let top = down.0 in let bottom = down.1 in
    let left_is : to_z w64 (of_z w64 c.args.left) ≡ c.args.left = search rules in
    let top_is : to_z w64 (of_z w64 c.args.top) ≡ c.args.top = search rules in
    let size : length c.deref_mut.result.now ≡ c.args.width * c.args.height = search rules in
    subst (λ (ds : List Cell). All (IsIn (to_z w64 (of_z w64 c.args.left)) (to_z w64 (of_z w64 c.args.top)) c.args.width (length c.deref_mut.result.now)) ds) (sym c.deref.ensures.value)
    (All-weaker (IsLiveWithin _ w) (IsIn (to_z w64 (of_z w64 c.args.left)) (to_z w64 (of_z w64 c.args.top)) c.args.width (length c.deref_mut.result.now)) (λ c' h.
    is_in (to_z w64 (of_z w64 c.args.left)) (to_z w64 (of_z w64 c.args.top)) c.args.width c.args.height (length c.deref_mut.result.now) _ c' size refl
    refl (omega (arith, ints)) (omega (arith, ints)) h.inside) cells c.in_ok-cells.ensures.each)

pub returns : goal.returns
returns c =
    let w = c.args.plane.now in
    let new = c.set_states.new.states in
    let across = spanned c.args.left c.args.width c.requires.inside.0 in
    let down = spanned c.args.top c.args.height c.requires.inside.1 in
    let low = across.0 in let high = across.1 in let top = down.0 in let bottom = down.1 in
    let left_is : to_z w64 (of_z w64 c.args.left) ≡ c.args.left = search rules in
    let top_is : to_z w64 (of_z w64 c.args.top) ≡ c.args.top = search rules in
    let long : length new ≡ c.in_ok-states.states.len = search rules in
    let whole : take c.in_ok-states.states.len (new ++ drop (length new) c.in_ok-states.states.items) ≡ new = take_at new (drop (length new) c.in_ok-states.states.items) c.in_ok-states.states.len long in
    let size : length new ≡ c.args.width * c.args.height = search rules in
    subst (λ l. ShowsWindow l w c.args.left c.args.top c.args.width c.args.height) (sym whole) (record {
      size = size;
      states = λ i j hi hj.
          c.set_states.ensures.states i j hi (let b = number_below c.args.width c.args.height i j hi hj in let was = sym c.set_states.ensures.size in omega (arith, b, was, size))
          ∙ ap (λ ds. last_state ds (to_z w64 (of_z w64 c.args.left) +ℤ pos i) (to_z w64 (of_z w64 c.args.top) +ℤ pos j) 0) c.deref.ensures.value
          ∙ (λ k. last_state c.in_ok-cells.cells.items (left_is k +ℤ pos i) (top_is k +ℤ pos j) 0)
          ∙ last-within _ w (c.args.left +ℤ pos i) (c.args.top +ℤ pos j) c.in_ok-cells.cells.items c.in_ok-cells.ensures
          (record { left = omega (arith, ints); right = omega (arith, ints); top = omega (arith, ints); bottom = omega (arith, ints) });
    })
