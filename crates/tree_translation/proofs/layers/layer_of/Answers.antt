use Rattle.tree_translation.proofs.Names.{None, Some, Tail, ap, arith, asked_at, get_or_from_slice_get, length, length_push, refl, rules, same_asked, slice_get_within, ◌∙◌, ◌≡◌}
use Rattle.std.proofs.lemmas.Slice.Zip.{zip_end, zip_turn}
use Rattle.tree_translation.proofs.Layering.{AreTails-more, IsNextTail, all-rows, asked-same, grown-insert_key, same_from_tail, same_tail}
use Rattle.tree_translation.proofs.layers.layer_of.Goals as goal

pub loop-row-preserved : goal.loop-row-preserved
loop-row-preserved c =
    let same = c.into_iter-row-iterator.ensures.into_iter_gives in
    let tail : Tail = record { set = c.in_ok-set.set; rest = c.in-Some.rest.now } in
    let turn = zip_turn c.args.rows.now c.args.rests.now c.loop-row.yielded c.into_iter-row-iterator.result c.loop-row.row-iterator c.next.new.self
    (Some (c.in-Some.row, c.in-Some.rest)) (ap (λ z. z.a.rest.now) same ∙ ap (λ z. z.rest.now) c.zip-row-items.ensures.first
    ∙ c.iter.ensures.rest) (ap (λ z. z.b.rest.now) same ∙ c.zip-row-items.ensures.second.0) c.loop-row.yielded_by (c.in-Some.row, c.in-Some.rest)
    refl c.in-Some.ensures.steps in
    let stored = c.in_ok-number.ensures.stored in
    let asked = c.in_ok-set.ensures.stored in
    let next : IsNextTail c.args.place c.args.rows.now c.args.rests.now c.loop-row.sets.keys.keys c.number_in.new.keys.keys c.loop-row.tails.keys.keys
    c.number_in-in-loop-row.new.keys.keys (length c.loop-row.yielded) c.in_ok-number.number c.asked.result tail = record {
      set_grown = grown-insert_key same_asked c.loop-row.sets.keys.keys c.number_in.new.keys.keys c.asked.result c.in_ok-set.ensures.grown;
      set_inside = slice_get_within c.number_in.new.keys.keys c.in_ok-set.set asked.0 asked.1;
      set_there = get_or_from_slice_get c.number_in.new.keys.keys c.in_ok-set.set asked.0 None asked.1 ∙ asked-same c.asked.result asked.0 asked.2;
      tail_grown = grown-insert_key same_tail c.loop-row.tails.keys.keys c.number_in-in-loop-row.new.keys.keys tail c.in_ok-number.ensures.grown;
      tail_inside = slice_get_within c.number_in-in-loop-row.new.keys.keys c.in_ok-number.number stored.0 stored.1;
      tail_there = stored.1 ∙ ap Some (same_from_tail tail stored.0 stored.2);
      row_inside = turn.1;
      asks = λ d. c.asked.ensures ∙ ap (λ row. asked_at c.args.place row.inputs) (turn.2 d);
      leaves = turn.3 0;
    } in
    rw (c.in_ok-push.ensures.items, length_push c.loop-row.yielded (c.in-Some.row, c.in-Some.rest)) (AreTails-more c.loop-row.invariant next)

pub returns : goal.returns
returns c =
    let same = c.into_iter-row-iterator.ensures.into_iter_gives in
    let ended = zip_end c.args.rows.now c.args.rests.now c.loop-row.yielded c.into_iter-row-iterator.result c.loop-row.row-iterator c.next.new.self None
    (ap (λ z. z.a.rest.now) same ∙ ap (λ z. z.rest.now) c.zip-row-items.ensures.first ∙ c.iter.ensures.rest)
    (ap (λ z. z.b.rest.now) same ∙ c.zip-row-items.ensures.second.0) c.loop-row.yielded_by refl c.in-None.ensures.steps in
    let sets : c.in_ok-sets.sets.items ≡ c.loop-row.sets.keys.keys = search rules in
    let keys : c.in_ok-tails.tails.items ≡ c.loop-row.tails.keys.keys = search rules in
    let all = all-rows (record { sets = c.in_ok-sets.sets; tails = c.in_ok-tails.tails }) c.loop-row.invariant sets keys (omega (arith, ended, c.requires.rests)) in
    record { layer = all.fits; rows = all.of }
