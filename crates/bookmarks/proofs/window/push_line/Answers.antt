use Rattle.bookmarks.proofs.Names.{ap, append_assoc, arith, decimal, get_or, join_with_byte, length, map, next_state, take, ◌++◌, ◌<◌, ◌∙◌}
use Rattle.bookmarks.proofs.Rows.{line-more}
use Rattle.bookmarks.proofs.window.push_line.Goals as goal

pub loop-column-preserved : goal.loop-column-preserved
loop-column-preserved c =
    let old = c.args.text.now.items in
    let states = c.args.states.now in
    let k = c.loop-column.column in
    let below : k < length states = omega arith in
    c.in_ok-push_state.ensures
    ∙ ap (λ t. t ++ next_state k (get_or states k 0)) c.loop-column.invariant
    ∙ append_assoc old (join_with_byte 32 (map decimal (take k states))) (next_state k (get_or states k 0))
    ∙ ap (λ t. old ++ t) (line-more states k 0 below)
