use Rattle.bookmarks.proofs.Names.{ap, arith, drop, line_of, of_z, pos, row_line, rules, sym, take, to_z, w64, window_text, ◌*◌, ◌++◌, ◌+ℤ◌, ◌+◌, ◌<◌, ◌∙◌, ◌≡◌}
use Rattle.bookmarks.proofs.Rows.{window-more, shown-line}
use Rattle.bookmarks.proofs.window.window_text.Goals as goal

pub loop-row-preserved : goal.loop-row-preserved
loop-row-preserved c =
    let w = c.args.plane.now in
    let k = c.loop-row.row in
    let width = c.args.width in
    let listed = c.in_ok-states.states.items in
    let states = c.deref.result.now in
    let below : k < c.args.height = omega arith in
    let left : to_z w64 (of_z w64 c.args.left) ≡ c.args.left = search rules in
    let top : to_z w64 (of_z w64 c.args.top) ≡ c.args.top = search rules in
    let before : c.loop-row.text.items ≡ window_text w c.args.left c.args.top width k = search rules in
    let line : line_of (take width (drop (k * width) states)) ≡ row_line w c.args.left (c.args.top +ℤ pos k) width =
    ap (λ l. line_of (take width (drop (k * width) l))) c.deref.ensures.value
    ∙ shown-line listed w (to_z w64 (of_z w64 c.args.left)) (to_z w64 (of_z w64 c.args.top)) width c.args.height k c.in_ok-states.ensures below
    ∙ (λ i. row_line w (left i) (top i +ℤ pos k) width) in
    c.in_ok-push_row.ensures
    ∙ ap (λ t. c.loop-row.text.items ++ t) line
    ∙ ap (λ t. t ++ row_line w c.args.left (c.args.top +ℤ pos k) width) before
    ∙ window-more w c.args.left c.args.top width k
    ∙ (λ i. window_text w (sym left i) (sym top i) width (k + 1))

pub returns : goal.returns
returns c =
    let end : c.loop-row.row ≡ c.args.height = omega arith in
    let left : to_z w64 (of_z w64 c.args.left) ≡ c.args.left = search rules in
    let top : to_z w64 (of_z w64 c.args.top) ≡ c.args.top = search rules in
    c.loop-row.invariant
    ∙ (λ i. window_text c.args.plane.now (left i) (top i) c.args.width (end i))
