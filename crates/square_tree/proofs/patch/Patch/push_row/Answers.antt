use Rattle.square_tree.proofs.Names.{SFits, [], ap, append_assoc, of_z, pos, row_states, rules, state_at, sym, to_z, to_z-of_z, unwrap_or, w64, ◌++◌, ◌+ℤ◌, ◌+◌, ◌∙◌, ◌∷◌, ◌≡◌}
use Rattle.square_tree.proofs.Windows.{row-more, spanned_fits}
use Rattle.square_tree.proofs.patch.Patch.push_row.Goals as goal

pub loop-column-preserved : goal.loop-column-preserved
loop-column-preserved g c =
    let v = c.args.self.now in
    let old = c.args.states.now.items in
    let k = c.loop-column.column in
    let left : to_z w64 (of_z w64 c.args.left) ≡ c.args.left = search rules in
    let y : to_z w64 (of_z w64 c.args.y) ≡ c.args.y = search rules in
    let from : to_z w64 (of_z w64 c.from.result) ≡ pos k = search rules in
    let fits : SFits w64 (c.args.left +ℤ pos k) = spanned_fits k c.requires.level c.requires.columns c.loop-column-test.true in
    let state : c.unwrap_or.result ≡ unwrap_or (state_at v (c.args.left +ℤ pos k) c.args.y) 0 =
    c.unwrap_or.ensures
    ∙ ap (λ o. unwrap_or o 0) (c.get.ensures
    ∙ (λ i. state_at v (to_z w64 (of_z w64 (left i +ℤ from i))) (y i))
    ∙ ap (λ x. state_at v x c.args.y) (to_z-of_z w64 (c.args.left +ℤ pos k) fits)) in
    let before : c.loop-column.states.items ≡ old ++ row_states v c.args.left c.args.y k = search rules in
    c.in_ok-push.ensures.items
    ∙ ap (λ t. t ++ c.unwrap_or.result ∷ []) before
    ∙ append_assoc old (row_states v c.args.left c.args.y k) (c.unwrap_or.result ∷ [])
    ∙ ap (λ t. old ++ t) (row-more v c.args.left c.args.y k c.unwrap_or.result state)
    ∙ (λ i. old ++ row_states v (sym left i) (sym y i) (k + 1))
