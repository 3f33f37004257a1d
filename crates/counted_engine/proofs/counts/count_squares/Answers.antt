use Rattle.counted_engine.proofs.Names.{arith, first_number, is_four, ℕ, ◌+◌}
use Rattle.hash_engine.specs.Asked.{is_put, picked, places_put}
use Rattle.counted_engine.specs.Found.{places_of_four}
use Rattle.counted_engine.proofs.Picked.{picked-next}
use Rattle.counted_engine.proofs.counts.count_squares.Goals as goal

pub loop-place-init : goal.loop-place-init
unfolding picked
loop-place-init c = grind arith

pub loop-place-preserved : goal.loop-place-preserved
unfolding is_put
loop-place-preserved c =
    let four = λ (j : ℕ). is_four c.args.table.now.rows (first_number + j) in
    let put = is_put c.args.table.now.rows c.args.table.now.notes in
    let i = c.loop-place.place in
    grind (arith, picked-next four i, picked-next put i, c.if-is_four.branch)

pub returns-clause-fours : goal.returns-clause-fours
unfolding places_of_four
returns-clause-fours c = grind (arith, c.loop-place.auto.place-end, c.len-place-end.ensures.count)

pub returns-clause-put : goal.returns-clause-put
unfolding places_put
returns-clause-put c = grind (arith, c.loop-place.auto.place-end, c.len-place-end.ensures.count)
