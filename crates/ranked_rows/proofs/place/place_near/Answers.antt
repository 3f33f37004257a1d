use Rattle.std.proofs.Common.{◌∙◌, sym, ap}
use Rattle.ranked_rows.proofs.Shared.Places.{place_of}
use Rattle.ranked_rows.proofs.place.place_near.Goals as goal

pub returns-then-rank : goal.returns-then-rank
returns-then-rank g c =
    let rank = g.T.Ranked.rank in
    sym (place_of rank c.args.rank c.args.rows.now c.args.guess c.index-rows-guess.result c.requires
    c.if-guess-rows.true (ap rank (sym c.index-rows-guess.is) ∙ sym c.rank.ensures ∙ c.if-rank.true))
