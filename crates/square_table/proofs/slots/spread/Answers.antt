use Rattle.square_table.proofs.Names.{ap, get_or-map, kids_in, kids_of, length-set, mark_of, sym, ◌∙◌}
use Rattle.square_table.proofs.Probing.{finds_next}
use Rattle.square_table.proofs.slots.spread.Goals as goal

pub loop-place-preserved : goal.loop-place-preserved
loop-place-preserved c =
    let rows = c.args.rows.now in
    let place = c.loop-place.place in
    let was = c.loop-place.invariant in
    let own = c.mark-mark.ensures ∙ ap mark_of (c.kids.ensures ∙ sym (get_or-map kids_in rows place _ _ c.loop-place-test.true)) in
    record {
      finds = finds_next (kids_of rows) place c.loop-place.wider c.mark-mark.result c.in-Some.free c.new.result was.finds c.in-Some.ensures own c.new.ensures.row c.new.ensures.tag;
      count = length-set c.loop-place.wider c.in-Some.free c.new.result ∙ was.count;
    }
