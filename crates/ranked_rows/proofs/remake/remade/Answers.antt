use Rattle.std.proofs.Common.{◌≡◌, ◌+◌, ◌∙◌, ◌++◌, [], ◌∷◌, drop, sym, ap, subst, arith}
use Rattle.std.proofs.lemmas.List.{drop_more}
use Rattle.ranked_rows.proofs.Passed.{Still, remade_more, still_more}
use Rattle.ranked_rows.proofs.remake.remade.Goals as goal

pub loop-key-preserved : goal.loop-key-preserved
loop-key-preserved g c =
    let key_rank = g.M.Remakes.key_rank in
    let rank = g.T.Ranked.rank in
    let made = g.M.Remakes.made c.args.maker.now in
    let may_go = g.M.Remakes.may_go c.args.maker.now in
    let old = c.args.old.items in
    let keys = c.args.keys.now in
    let i = c.loop-key.key-index in
    let k = c.key-item.result in
    let inv = c.loop-key.invariant in
    let next : drop i keys ≡ k ∷ drop (i + 1) keys =
    drop_more keys i k c.loop-key-test.true ∙ ap (λ x. x ∷ drop (i + 1) keys) (sym c.key-item.is) in
    let still : Still key_rank rank may_go old c.loop-key.left (k ∷ drop (i + 1) keys) =
    subst (Still key_rank rank may_go old c.loop-key.left) next inv.still in
    let push = c.push_reserved.ensures in
    record {
      items = push.items ∙ ap (λ rows. rows ++ c.row.result ∷ []) inv.items
          ∙ remade_more key_rank rank made old keys i k c.row.result c.loop-key-test.true c.key-item.is
          (c.row.ensures.row ∙ ap (made k) still.same.0);
      len = omega (arith, push.len, inv.len);
      capacity = push.capacity ∙ inv.capacity;
      still = subst (λ left. Still key_rank rank may_go old left (drop (i + 1) keys)) (sym c.row.ensures.left)
          (still_more key_rank rank may_go old c.loop-key.left k (drop (i + 1) keys) still);
    }
