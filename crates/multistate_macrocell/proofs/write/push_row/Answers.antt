use Rattle.multistate_macrocell.proofs.Names.{List, [], ap, decimal, kid, on_ok_weaker, ℕ, ◌++◌, ◌∙◌, ◌∷◌, ◌≡◌}
use Rattle.multistate_macrocell.proofs.Written.{added-on_ok, row_line-joined}
use Rattle.multistate_macrocell.proofs.write.push_row.Goals as goal

pub returns : goal.returns
returns c =
    let old = c.args.text.now.items in
    let row = c.args.row.now in
    let line = old ++ decimal row.level ++ 32 ∷ decimal (kid row 0) ++ 32 ∷ decimal (kid row 1) ++ 32 ∷ decimal (kid row 2) ++ 32 ∷ decimal (kid row 3) in
    let before : c.push_quadrant-4.new.text.items ≡ line =
    c.in_ok-push_quadrant-4.ensures
    ∙ ap (λ (t : List ℕ). t ++ 32 ∷ decimal (kid row 3)) (c.in_ok-push_quadrant-3.ensures
    ∙ ap (λ (t : List ℕ). t ++ 32 ∷ decimal (kid row 2)) (c.in_ok-push_quadrant-2.ensures
    ∙ ap (λ (t : List ℕ). t ++ 32 ∷ decimal (kid row 1)) (c.in_ok-push_quadrant.ensures
    ∙ ap (λ (t : List ℕ). t ++ 32 ∷ decimal (kid row 0)) (c.in_ok-push_number.ensures
    ∙ ap (λ n. old ++ decimal n) c.from.ensures)))) in
    on_ok_weaker c.extend_from_slice.result (λ e. e ∙ ap (λ (t : List ℕ). t ++ 10 ∷ []) before ∙ row_line-joined old row)
    (added-on_ok c.extend_from_slice.result c.extend_from_slice.new.self.items (c.push_quadrant-4.new.text.items ++ 10 ∷ []) c.push_quadrant-4.new.text.items c.extend_from_slice.ensures.items)
