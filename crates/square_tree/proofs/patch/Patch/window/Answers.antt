use Rattle.square_tree.proofs.Names.{Cells, SFits, ap, arith, of_z, pos, row_states, rules, sym, to_z, to_z-of_z, w64, window_states, ◌++◌, ◌+ℤ◌, ◌+◌, ◌∙◌, ◌≡◌, ◌≤◌}
use Rattle.square_tree.proofs.Windows.{window-more, spanned, spanned_fits}
use Rattle.square_tree.proofs.patch.Patch.window.Goals as goal

pub overflow_add-top : goal.overflow_add-top
overflow_add-top g c =
    let k = c.loop-row.row in
    let same : c.self.inside.level ≡ c.args.self.now.level = ap (λ (v : Cells). v.level) c.self.view_is in
    let few : c.args.self.now.level ≤ 62 = omega (arith, same, c.self.invariant.0) in
    let top : to_z w64 (of_z w64 c.args.top) ≡ c.args.top = search rules in
    let from : to_z w64 (of_z w64 c.from.result) ≡ pos k = search rules in
    rw (top, from) (spanned_fits k few c.requires.rows c.loop-row-test.true)

pub push_row-requires-clause-row : goal.push_row-requires-clause-row
push_row-requires-clause-row g c =
    let k = c.loop-row.row in
    let same : c.self.inside.level ≡ c.args.self.now.level = ap (λ (v : Cells). v.level) c.self.view_is in
    let few : c.args.self.now.level ≤ 62 = omega (arith, same, c.self.invariant.0) in
    let top : to_z w64 (of_z w64 c.args.top) ≡ c.args.top = search rules in
    let from : to_z w64 (of_z w64 c.from.result) ≡ pos k = search rules in
    let fits = spanned_fits k few c.requires.rows c.loop-row-test.true in
    rw (top, from, to_z-of_z w64 (c.args.top +ℤ pos k) fits) (spanned k c.requires.rows c.loop-row-test.true)

pub loop-row-preserved : goal.loop-row-preserved
loop-row-preserved g c =
    let v = c.args.self.now in
    let k = c.loop-row.row in
    let width = c.args.width in
    let same : c.self.inside.level ≡ v.level = ap (λ (v : Cells). v.level) c.self.view_is in
    let few : v.level ≤ 62 = omega (arith, same, c.self.invariant.0) in
    let left : to_z w64 (of_z w64 c.args.left) ≡ c.args.left = search rules in
    let top : to_z w64 (of_z w64 c.args.top) ≡ c.args.top = search rules in
    let from : to_z w64 (of_z w64 c.from.result) ≡ pos k = search rules in
    let fits : SFits w64 (c.args.top +ℤ pos k) = spanned_fits k few c.requires.rows c.loop-row-test.true in
    let before : c.loop-row.states.items ≡ window_states v c.args.left c.args.top width k = search rules in
    c.in_ok-push_row.ensures
    ∙ (λ i. c.loop-row.states.items ++ row_states v (left i) (to_z w64 (of_z w64 (top i +ℤ from i))) width)
    ∙ ap (λ y. c.loop-row.states.items ++ row_states v c.args.left y width) (to_z-of_z w64 (c.args.top +ℤ pos k) fits)
    ∙ ap (λ t. t ++ row_states v c.args.left (c.args.top +ℤ pos k) width) before
    ∙ window-more v c.args.left c.args.top width k
    ∙ (λ i. window_states v (sym left i) (sym top i) width (k + 1))
