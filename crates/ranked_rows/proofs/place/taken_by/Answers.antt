use Rattle.std.proofs.Common.{◌≡◌, ◌<◌, ◌∙◌, length, get_or, sym, ap, subst, arith}
use Rattle.std.proofs.lemmas.List.{get_or_default}
use Rattle.ranked_rows.proofs.Shared.Places.{absent, row_there}
use Rattle.ranked_rows.proofs.place.taken_by.Goals.{else-place-rows-via-then-place-rows+else-rank, else-place-rows-via-else-place-rows}
use Rattle.ranked_rows.proofs.place.taken_by.Goals as goal

pub returns-then-rank : goal.returns-then-rank
returns-then-rank g c =
    let rank = g.T.Ranked.rank in
    let rows = c.args.rows.now in
    let low = c.if-place-rows.true in (
      low,
      λ d. row_there rank c.args.rank rows c.args.place d c.requires.1 low
          (ap rank (get_or_default rows c.args.place d c.index-rows-place.result low ∙ sym c.index-rows-place.is)
          ∙ sym c.rank.ensures ∙ c.if-rank.true),
    )

pub returns-else-place-rows : goal.returns-else-place-rows
returns-else-place-rows g c =
    let rank = g.T.Ranked.rank in
    let n = c.args.rank in
    let rows = c.args.rows.now in
    absent rank n rows c.requires.1
    (subst (λ k. (d : g.row.T.Denot) → k < length rows → rank (get_or rows k d) ≡ n → ⊥) c.requires.0
    (elim c.else-place-rows.branch [
      | else-place-rows-via-then-place-rows+else-rank w ↦ λ d low is.
          let x = w.index-rows-place.result in
          w.if-rank.false
          (w.rank.ensures ∙ ap rank (w.index-rows-place.is ∙ get_or_default rows c.args.place x d low) ∙ is)
      | else-place-rows-via-else-place-rows w ↦ λ d low is. omega (arith, low, w.if-place-rows.false)
    ]))
