use Rattle.tree_translation.proofs.Names.{AreLayersOf, None, arith, drop, get_or, length, nil_from_length, take, ◌-◌}
use Rattle.std.proofs.lemmas.Slice.{first_rest}
use Rattle.tree_translation.proofs.Layering.{AreLayersOf-none, AreLayersOf-more}
use Rattle.tree_translation.proofs.layers.+layers_of.Goals as goal

pub returns-in_ok-results_of-in-empty-clause-layers : goal.returns-in_ok-results_of-in-empty-clause-layers
returns-in_ok-results_of-in-empty-clause-layers t c = λ states below.
    let results = c.in_ok-results_of-in-empty in
    rw (nil_from_length c.args.order.now (omega arith), c.new.ensures.items)
    (AreLayersOf-none states c.args.rows.now results.field-0.items results.ensures.count results.ensures.each below)

pub returns-in_ok-insert-in-len1-up-clause-layers : goal.returns-in_ok-insert-in-len1-up-clause-layers
returns-in_ok-insert-in-len1-up-clause-layers t c = λ states below.
    let layer = c.in_ok-layer-in-len1-up in
    let rests = c.in_ok-layers-in-len1-up in
    let others = take (length c.args.order.now - 1) (drop 1 c.args.order.now) in
    let seen : AreLayersOf states others c.args.rows.now rests.layers.items c.deref.result.now = rw c.deref.ensures.value (rests.ensures.layers states below) in
    rw (first_rest c.args.order.now None (omega arith), c.in_ok-insert-in-len1-up.ensures.items)
    (AreLayersOf-more states (get_or c.args.order.now 0 None) others c.args.rows.now layer.layer rests.layers.items c.deref.result.now layer.numbers.items seen layer.ensures.layer layer.ensures.rows)
