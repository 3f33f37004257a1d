use Rattle.hash_engine.proofs.Names.{IsNumber-grows, arith, rules, subst, sym, ◌<◌, ◌∙◌}
use Rattle.hash_engine.specs.Search.{FindsFor, KeepsFor}
use Rattle.hash_engine.proofs.Standing.{above, within, StandsFor-itself}
use Rattle.hash_engine.proofs.Shared.Ending.{went_on, not_yet, End-found, End-fault}
use Rattle.hash_engine.proofs.Finding.{Keeps-middle, Keeps-noted, IsFound-none, found_still, asks_still, Asks-grown}
use Rattle.hash_engine.proofs.Making.{MakesFor-none, MakesFor-noted}
use Rattle.hash_engine.proofs.Computing.{AreDone-all, FirstAreMade-all, turn_made, middles_can, middles_found, middles_keeps, turn_can, turn_keeps, turn_asks}
use Rattle.hash_engine.proofs.Computing.{turn_done, nine_keeps, nine_can, first_keeps, fours_keeps, fours_can, last_keeps, joined_keeps, joined_all}
use Rattle.hash_engine.proofs.later.+forward.Goals as goal

pub all_forward-forward-requires : goal.all_forward-forward-requires
all_forward-forward-requires g t c κs within =
    let can = turn_can c.requires c.loop-number-test.true c.loop-number.invariant.keeps c.loop-number.invariant.done in
    search rules

pub all_forward-loop-number-preserved : goal.all_forward-loop-number-preserved
all_forward-loop-number-preserved g t c =
    let was = c.loop-number.invariant in
    let now = c.in_ok-number.ensures in
    let below = c.loop-number-test.true in
    record {
      keeps = turn_keeps c.requires below was.keeps was.done now.keeps;
      went_on = now.end.stop.went_on (λ e. search rules) ∙ was.went_on;
      made = turn_made c.requires below was.keeps was.done now.keeps was.made now.made;
      done = turn_done c.requires below was.keeps was.done now.keeps was.asks now.asks now.found;
      asks = turn_asks c.requires below was.keeps was.done now.keeps was.asks now.asks;
    }

pub all_forward-returns-in_err-number-clause-keeps : goal.all_forward-returns-in_err-number-clause-keeps
all_forward-returns-in_err-number-clause-keeps g t c =
    turn_keeps c.requires c.loop-number-test.true c.loop-number.invariant.keeps c.loop-number.invariant.done c.forward.ensures.keeps

pub all_forward-returns-clause-found : goal.all_forward-returns-clause-found
all_forward-returns-clause-found g t c = AreDone-all c.loop-number.invariant.done c.loop-number-test.false

pub all_forward-returns-clause-made : goal.all_forward-returns-clause-made
all_forward-returns-clause-made g t c =
    FirstAreMade-all (g.Q.Ask.meaning c.args.rule.now) c.args.k c.args.ahead c.args.numbers.now c.args.table.now c.loop-number.table c.loop-number.invariant.made c.loop-number-test.false

pub by_parts-returns-in_err-nine-clause-keeps : goal.by_parts-returns-in_err-nine-clause-keeps
by_parts-returns-in_err-nine-clause-keeps g t c = nine_keeps c.requires c.min-first.ensures c.full.ensures c.nine.ensures.adds

pub by_parts-all_forward-requires : goal.by_parts-all_forward-requires
by_parts-all_forward-requires g t c κs within = let can = nine_can c.requires c.min-first.ensures c.full.ensures c.in_ok-nine.ensures.adds c.in_ok-nine.ensures.squares in search rules

pub by_parts-returns-in_err-all_forward-clause-keeps : goal.by_parts-returns-in_err-all_forward-clause-keeps
by_parts-returns-in_err-all_forward-clause-keeps g t c = first_keeps c.requires c.min-first.ensures c.full.ensures c.in_ok-nine.ensures.adds c.in_ok-nine.ensures.squares c.all_forward.ensures.keeps

pub by_parts-join_middles-requires : goal.by_parts-join_middles-requires
by_parts-join_middles-requires g t c =
    middles_can c.requires c.min-first.ensures c.full.ensures c.in_ok-nine.ensures.adds c.in_ok-nine.ensures.squares c.in_ok-all_forward.ensures.keeps c.in_ok-all_forward.ensures.found
    c.if-first-ahead.true

pub by_parts-returns-in_err-join_middles-clause-keeps : goal.by_parts-returns-in_err-join_middles-clause-keeps
by_parts-returns-in_err-join_middles-clause-keeps g t c =
    middles_keeps c.requires c.min-first.ensures c.full.ensures c.in_ok-nine.ensures.adds c.in_ok-nine.ensures.squares c.in_ok-all_forward.ensures.keeps c.in_ok-all_forward.ensures.found
    c.if-first-ahead.true c.join_middles.ensures.adds

pub by_parts-returns-then-first-ahead-clause-keeps : goal.by_parts-returns-then-first-ahead-clause-keeps
by_parts-returns-then-first-ahead-clause-keeps g t c =
    middles_keeps c.requires c.min-first.ensures c.full.ensures c.in_ok-nine.ensures.adds c.in_ok-nine.ensures.squares c.in_ok-all_forward.ensures.keeps c.in_ok-all_forward.ensures.found
    c.if-first-ahead.true c.in_ok-join_middles.ensures.adds

pub by_parts-returns-then-first-ahead-clause-found : goal.by_parts-returns-then-first-ahead-clause-found
by_parts-returns-then-first-ahead-clause-found g t c =
    middles_found c.requires c.min-first.ensures c.full.ensures c.in_ok-nine.ensures.adds c.in_ok-nine.ensures.squares c.in_ok-all_forward.ensures.keeps c.in_ok-all_forward.ensures.found
    c.if-first-ahead.true (sym c.is_lean-is_lean.ensures ∙ c.if-is_lean-2.true) c.join_middles.new.table c.in_ok-join_middles.field-0 c.in_ok-join_middles.ensures.square

pub by_parts-returns-in_err-fours-clause-keeps : goal.by_parts-returns-in_err-fours-clause-keeps
by_parts-returns-in_err-fours-clause-keeps g t c =
    fours_keeps c.requires c.min-first.ensures c.full.ensures c.in_ok-nine.ensures.adds c.in_ok-nine.ensures.squares c.in_ok-all_forward.ensures.keeps c.in_ok-all_forward.ensures.found c.fours.ensures.adds

pub by_parts-all_forward-requires-2 : goal.by_parts-all_forward-requires-2
by_parts-all_forward-requires-2 g t c κs within =
    let can = fours_can c.requires c.min-first.ensures c.full.ensures c.in_ok-nine.ensures.adds c.in_ok-nine.ensures.squares c.in_ok-all_forward.ensures.keeps c.in_ok-all_forward.ensures.found
    c.in_ok-fours.ensures.adds c.in_ok-fours.ensures.squares in
    search rules

pub by_parts-returns-in_err-all_forward-2-clause-keeps : goal.by_parts-returns-in_err-all_forward-2-clause-keeps
by_parts-returns-in_err-all_forward-2-clause-keeps g t c =
    last_keeps c.requires c.min-first.ensures c.full.ensures c.in_ok-nine.ensures.adds c.in_ok-nine.ensures.squares c.in_ok-all_forward.ensures.keeps c.in_ok-all_forward.ensures.found
    c.in_ok-fours.ensures.adds c.in_ok-fours.ensures.squares c.all_forward-2.ensures.keeps

pub by_parts-returns-in_err-all_forward-2-clause-end : goal.by_parts-returns-in_err-all_forward-2-clause-end
by_parts-returns-in_err-all_forward-2-clause-end g t c = grind arith

pub by_parts-returns-in_err-join_numbers-clause-keeps : goal.by_parts-returns-in_err-join_numbers-clause-keeps
by_parts-returns-in_err-join_numbers-clause-keeps g t c =
    joined_keeps c.requires c.min-first.ensures c.full.ensures c.in_ok-nine.ensures.adds c.in_ok-nine.ensures.squares c.in_ok-all_forward.ensures.keeps c.in_ok-all_forward.ensures.found
    c.in_ok-fours.ensures.adds c.in_ok-fours.ensures.squares c.in_ok-all_forward-2.ensures.keeps c.in_ok-all_forward-2.ensures.found
    c.join_numbers.ensures.grows c.join_numbers.ensures.one

pub by_parts-returns : goal.by_parts-returns
by_parts-returns g t c =
    let all = joined_all c.requires c.min-first.ensures c.full.ensures c.in_ok-nine.ensures.adds c.in_ok-nine.ensures.squares c.in_ok-all_forward.ensures.keeps c.in_ok-all_forward.ensures.found
    c.in_ok-fours.ensures.adds c.in_ok-fours.ensures.squares c.in_ok-all_forward-2.ensures.keeps c.in_ok-all_forward-2.ensures.found
    c.in_ok-join_numbers.ensures.grows c.in_ok-join_numbers.ensures.one c.in_ok-all_forward.ensures.asks c.in_ok-all_forward-2.ensures.asks c.in_ok-join_numbers.ensures.square
    c.in_ok-all_forward.ensures.made c.in_ok-all_forward-2.ensures.made in
    record { keeps = all.0; end = search rules; found = all.1; asks = all.2; made = all.3 }

pub forward-returns-in_err-middle-clause-keeps : goal.forward-returns-in_err-middle-clause-keeps
forward-returns-in_err-middle-clause-keeps g t c =
    Keeps-middle c.args.k c.args.number c.if-ahead-eq0.true c.requires.right c.requires.ready.numbered c.middle.ensures.adds

pub forward-returns-then-ahead-eq0 : goal.forward-returns-then-ahead-eq0
forward-returns-then-ahead-eq0 g t c =
    let made = c.in_ok-middle.ensures in
    let same = (made.adds c.args.k _ (StandsFor-itself c.args.table.now.rows _ c.args.number c.requires.ready.numbered)).notes in
    record {
      keeps = Keeps-middle c.args.k c.args.number c.if-ahead-eq0.true c.requires.right c.requires.ready.numbered made.adds;
      end = search rules;
      found = IsFound-none c.if-ahead-eq0.true made.grows c.requires.ready.numbered made.square;
      asks = λ is. Asks-grown made.grows same c.requires.right is.has;
      made = MakesFor-none c.args.k c.args.number c.if-ahead-eq0.true made.grows same c.requires.right c.requires.ready.numbered made.square;
    }

pub forward-remember-requires-clause-number : goal.forward-remember-requires-clause-number
forward-remember-requires-clause-number g t c =
    let rows = c.compute.new.table.rows in
    let numbered = IsNumber-grows c.args.table.now c.compute.new.table _ c.args.number c.in_ok-made.ensures.keeps.grows c.requires.ready.numbered in
    (above rows _ c.args.number numbered, within rows _ c.args.number numbered)

pub forward-returns-in_err-remember-clause-keeps : goal.forward-returns-in_err-remember-clause-keeps
forward-returns-in_err-remember-clause-keeps g t c =
    let made = c.in_ok-made.ensures in
    Keeps-noted c.remember.new.self made.keeps c.requires.ready.numbered made.found c.remember.ensures.rows c.remember.ensures.right

pub forward-returns : goal.forward-returns
forward-returns g t c =
    let made = c.in_ok-made.ensures in
    let grows = made.keeps.grows in
    let numbered = c.requires.ready.numbered in
    let rows = c.remember.ensures.rows in
    let noted = c.in_ok-remember.ensures.noted in
    let some : 0 < c.in_ok-made.made =
    omega (arith, above c.compute.new.table.rows c.args.k c.in_ok-made.made made.found.square.numbered) in
    let high : 0 < c.args.k = omega (arith, c.if-k-eq0.false) in
    record {
      keeps = Keeps-noted c.remember.new.self made.keeps numbered made.found rows c.remember.ensures.right;
      end = search rules;
      found = found_still high grows numbered rows noted some made.found;
      asks = asks_still high grows numbered rows noted some made.found made.asks;
      made = MakesFor-noted (g.Q.Ask.meaning c.args.rule.now) c.args.number grows numbered rows noted made.made;
    }

pub forward-returns-then-k-eq0-clause-keeps : goal.forward-returns-then-k-eq0-clause-keeps
forward-returns-then-k-eq0-clause-keeps g t c =
    subst (λ k. KeepsFor g.Q.Ask.meaning g.Q.Ask.state_count c.args.rule.now c.put.new.rule k c.args.ahead c.args.number c.args.table.now c.put.new.table c.put.new.memo)
    (sym c.if-k-eq0.true) c.in_ok-put.ensures.keeps

pub forward-remember-requires-clause-found : goal.forward-remember-requires-clause-found
forward-remember-requires-clause-found g t c = within c.compute.new.table.rows _ c.in_ok-made.made c.in_ok-made.ensures.found.square.numbered

pub by_parts-returns-then-first-ahead-clause-end : goal.by_parts-returns-then-first-ahead-clause-end
by_parts-returns-then-first-ahead-clause-end g t c = End-found _ (went_on c.in_ok-all_forward.ensures.end)

pub forward-returns-then-k-eq0-clause-found : goal.forward-returns-then-k-eq0-clause-found
forward-returns-then-k-eq0-clause-found g t c =
    subst (λ k. FindsFor (g.Q.Ask.meaning c.args.rule.now) k c.args.ahead c.args.number c.args.table.now c.args.memo.now c.put.new.table c.in_ok-put.field-0) (sym c.if-k-eq0.true) c.in_ok-put.ensures.found

pub forward-returns-then-k-eq0-clause-end : goal.forward-returns-then-k-eq0-clause-end
forward-returns-then-k-eq0-clause-end g t c = End-found _ (not_yet c.poll.ensures c.if-poll.false)

pub by_parts-returns-in_err-fours-clause-end : goal.by_parts-returns-in_err-fours-clause-end
by_parts-returns-in_err-fours-clause-end g t c =
    End-fault c.fours.result c.from_residual-in_err-fours.result c.in_err-fours.field-0.0 c.in_err-fours.was c.from_residual-in_err-fours.ensures.1
    c.fours.ensures.full (went_on c.in_ok-all_forward.ensures.end)

pub forward-returns-in_err-put-clause-keeps : goal.forward-returns-in_err-put-clause-keeps
forward-returns-in_err-put-clause-keeps g t c =
    subst (λ k. KeepsFor g.Q.Ask.meaning g.Q.Ask.state_count c.args.rule.now c.put.new.rule k c.args.ahead c.args.number c.args.table.now c.put.new.table c.put.new.memo)
    (sym c.if-k-eq0.true) c.put.ensures.keeps
