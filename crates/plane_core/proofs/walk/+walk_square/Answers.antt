use Rattle.plane_core.proofs.Names.{None, Some, arith, get_or, get_or_read, lit<, sym, ◌-◌, ◌∙◌, ◌≡◌}
use Rattle.plane_core.proofs.Shared.Sound.{Has-state, Has-none, number-listed, number-kid}
use Rattle.plane_core.proofs.Walking.{walks-known, walks-four, remembers-more, grows-complete}
use Rattle.plane_core.proofs.walk.+walk_square.Goals as goal

pub returns-then-level-eq0-clause-walks : goal.returns-then-level-eq0-clause-walks
returns-then-level-eq0-clause-walks t c = grind (arith, Has-state)

pub returns-then-number-eq0-clause-walks : goal.returns-then-number-eq0-clause-walks
returns-then-number-eq0-clause-walks t c = grind (arith, Has-none)

pub index-requires : goal.index-requires
index-requires t c = grind (arith, number-listed)

pub returns-in-Some-clause-walks : goal.returns-in-Some-clause-walks
returns-in-Some-clause-walks t c =
    let numbers = c.args.walk.now.numbers.items in
    let listed = number-listed c.args.rows.now c.args.level c.args.number (omega arith) (omega arith) c.requires.number in
    let known : get_or numbers (c.args.number - 1) None ≡ Some c.in-Some.known = sym (get_or_read numbers (c.args.number - 1) c.index.result.now (omega arith) c.index.ensures None) ∙ c.in-Some.is in
    walks-known c.args.rows.now c.args.walk.now.done.keys numbers c.args.level c.args.number c.in-Some.known (omega arith) (omega arith) c.requires.number c.requires.remembers known

pub bounds-rows-place : goal.bounds-rows-place
bounds-rows-place t c = grind (arith, number-listed)

pub walk_square-requires : goal.walk_square-requires
walk_square-requires t c = (omega (arith, c.decreases), (c.requires.rows, (number-kid c.args.rows.now c.args.level c.args.number 0 c.requires.rows (omega arith) (omega arith) c.requires.number (lit< tt), c.requires.remembers)))

pub walk_square-requires-2 : goal.walk_square-requires-2
walk_square-requires-2 t c = (omega (arith, c.decreases), (c.requires.rows, (number-kid c.args.rows.now c.args.level c.args.number 1 c.requires.rows (omega arith) (omega arith) c.requires.number (lit< tt), c.in_ok-nw.ensures.remembers)))

pub walk_square-requires-3 : goal.walk_square-requires-3
walk_square-requires-3 t c = (omega (arith, c.decreases), (c.requires.rows, (number-kid c.args.rows.now c.args.level c.args.number 2 c.requires.rows (omega arith) (omega arith) c.requires.number (lit< tt), c.in_ok-ne.ensures.remembers)))

pub walk_square-requires-4 : goal.walk_square-requires-4
walk_square-requires-4 t c = (omega (arith, c.decreases), (c.requires.rows, (number-kid c.args.rows.now c.args.level c.args.number 3 c.requires.rows (omega arith) (omega arith) c.requires.number (lit< tt), c.in_ok-sw.ensures.remembers)))

pub index_mut-requires : goal.index_mut-requires
index_mut-requires t c = grind (arith, number-listed)

pub returns-clause-walks : goal.returns-clause-walks
returns-clause-walks t c =
    walks-four c.args.rows.now c.args.walk.now.done.keys c.walk_square.new.walk.done.keys c.walk_square-2.new.walk.done.keys c.walk_square-3.new.walk.done.keys c.walk_square-4.new.walk.done.keys c.complete.new.done.keys
    c.args.level c.args.number c.in_ok-nw.nw c.in_ok-ne.ne c.in_ok-sw.sw c.in_ok-se.se c.in_ok-known.known (omega arith) (omega arith)
    c.in_ok-nw.ensures.walks c.in_ok-ne.ensures.walks c.in_ok-sw.ensures.walks c.in_ok-se.ensures.walks c.in_ok-known.ensures.rows c.in_ok-known.ensures.number

pub returns-clause-remembers : goal.returns-clause-remembers
returns-clause-remembers t c =
    remembers-more c.args.rows.now c.args.walk.now.done.keys c.walk_square-4.new.walk.done.keys c.complete.new.done.keys c.walk_square-4.new.walk.numbers.items
    c.args.level c.args.number c.in_ok-known.known (omega arith) (omega arith) c.requires.number c.in_ok-se.ensures.remembers
    (grows-complete _ c.walk_square-4.new.walk.done.keys c.complete.new.done.keys c.in_ok-known.ensures.rows) c.in_ok-known.ensures.few
    (walks-four c.args.rows.now c.args.walk.now.done.keys c.walk_square.new.walk.done.keys c.walk_square-2.new.walk.done.keys c.walk_square-3.new.walk.done.keys c.walk_square-4.new.walk.done.keys c.complete.new.done.keys
    c.args.level c.args.number c.in_ok-nw.nw c.in_ok-ne.ne c.in_ok-sw.sw c.in_ok-se.se c.in_ok-known.known (omega arith) (omega arith)
    c.in_ok-nw.ensures.walks c.in_ok-ne.ensures.walks c.in_ok-sw.ensures.walks c.in_ok-se.ensures.walks c.in_ok-known.ensures.rows c.in_ok-known.ensures.number)
