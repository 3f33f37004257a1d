use Rattle.step_engine.proofs.Names.{IfOk-weaker, IsNumber, IsSquareOf, Keeps-grows, StandsFor, [], arith, first_number, length, level_of, padded, square_of, subst, suc, sym, ℕ, ◌+◌, ◌-◌, ◌<◌, ◌∷◌, ◌≤◌}
use Rattle.square_table.proofs.Shared.Tables.{above_zero}
use Rattle.step_engine.proofs.Joins.{IsPadding, IsPadding-begun, nw-joined, ne-joined, sw-joined, se-joined, whole-joined, IsPaddedNumber-made}
use Rattle.step_engine.proofs.padding.pad.Goals as goal
use Rattle.step_engine.proofs.padding.pad.Goals.{After-number, After-quadrants, After-join_numbers-5}

-- the square is still there
number : (c : After-number) → IsNumber c.blank.new.self.rows (level_of c.args.square) c.number.result
number c = subst (IsNumber c.blank.new.self.rows (level_of c.args.square)) (sym c.number.ensures) ((Keeps-grows c.args.table.now c.blank.new.self c.in_ok-blank.ensures.grows.grows).held c.args.square c.requires.held).numbered

range : (c : After-number) → (first_number ≤ c.number.result) × (c.number.result < first_number + length c.blank.new.self.rows)
range c = above_zero c.blank.new.self.rows (level_of c.args.square) c.number.result (omega (arith, c.requires.level.0)) (number c)

pub quadrants-requires-clause-above : goal.quadrants-requires-clause-above
quadrants-requires-clause-above c = (range c).0

pub quadrants-requires-clause-there : goal.quadrants-requires-clause-there
quadrants-requires-clause-there c = (range c).1

begun : (c : After-quadrants) → IsPadding c.args.table.now c.args.square (c.level.result - 1) c.number-empty.result c.quadrants.result c.blank.new.self c.blank.new.self
begun c = IsPadding-begun c.requires.level.0 (omega (arith, c.level.ensures)) c.requires.held c.number.ensures c.in_ok-blank.ensures.grows c.in_ok-blank.ensures.square c.number-empty.ensures c.quadrants.ensures

pub returns-in_err-nw-clause-adds : goal.returns-in_err-nw-clause-adds
returns-in_err-nw-clause-adds c =
    let p = begun (goal.at.returns-in_err-nw-clause-adds c).After-quadrants in
    (nw-joined p c.join_numbers.ensures.grows c.join_numbers.ensures.one).adds

pub returns-in_err-ne-clause-adds : goal.returns-in_err-ne-clause-adds
returns-in_err-ne-clause-adds c =
    let p = begun (goal.at.returns-in_err-ne-clause-adds c).After-quadrants in
    let p = nw-joined p c.join_numbers.ensures.grows c.join_numbers.ensures.one in
    (ne-joined p c.join_numbers-2.ensures.grows c.join_numbers-2.ensures.one).adds

pub returns-in_err-sw-clause-adds : goal.returns-in_err-sw-clause-adds
returns-in_err-sw-clause-adds c =
    let p = begun (goal.at.returns-in_err-sw-clause-adds c).After-quadrants in
    let p = nw-joined p c.join_numbers.ensures.grows c.join_numbers.ensures.one in
    let p = ne-joined p c.join_numbers-2.ensures.grows c.join_numbers-2.ensures.one in
    (sw-joined p c.join_numbers-3.ensures.grows c.join_numbers-3.ensures.one).adds

pub returns-in_err-se-clause-adds : goal.returns-in_err-se-clause-adds
returns-in_err-se-clause-adds c =
    let p = begun (goal.at.returns-in_err-se-clause-adds c).After-quadrants in
    let p = nw-joined p c.join_numbers.ensures.grows c.join_numbers.ensures.one in
    let p = ne-joined p c.join_numbers-2.ensures.grows c.join_numbers-2.ensures.one in
    let p = sw-joined p c.join_numbers-3.ensures.grows c.join_numbers-3.ensures.one in
    (se-joined p c.join_numbers-4.ensures.grows c.join_numbers-4.ensures.one).adds

-- all of it, and its number
whole : (c : After-join_numbers-5) → IsPadding c.args.table.now c.args.square (c.level.result - 1) c.number-empty.result c.quadrants.result c.blank.new.self c.join_numbers-5.new.self
    × ((m : ℕ) → IsSquareOf c.join_numbers-5.new.self.rows (c.in_ok-nw.nw ∷ c.in_ok-ne.ne ∷ c.in_ok-sw.sw ∷ c.in_ok-se.se ∷ []) m
    → StandsFor c.join_numbers-5.new.self.rows (suc (suc (c.level.result - 1))) m (padded (c.level.result - 1) (square_of c.blank.new.self.rows (c.level.result - 1) c.quadrants.result)))
whole c =
    let p1 = IsPadding-begun c.requires.level.0 (omega (arith, c.level.ensures)) c.requires.held c.number.ensures c.in_ok-blank.ensures.grows c.in_ok-blank.ensures.square c.number-empty.ensures c.quadrants.ensures in
    let p2 = nw-joined p1 c.join_numbers.ensures.grows c.join_numbers.ensures.one in
    let p3 = ne-joined p2 c.join_numbers-2.ensures.grows c.join_numbers-2.ensures.one in
    let p4 = sw-joined p3 c.join_numbers-3.ensures.grows c.join_numbers-3.ensures.one in
    let p5 = se-joined p4 c.join_numbers-4.ensures.grows c.join_numbers-4.ensures.one in
    whole-joined p2 c.in_ok-nw.ensures.square c.join_numbers-2.ensures.grows p3 c.in_ok-ne.ensures.square c.join_numbers-3.ensures.grows p4 c.in_ok-sw.ensures.square c.join_numbers-4.ensures.grows
    p5 c.in_ok-se.ensures.square c.join_numbers-5.ensures.grows c.join_numbers-5.ensures.one

pub returns-clause-adds : goal.returns-clause-adds
returns-clause-adds c = (whole (goal.at.returns-clause-adds c).After-join_numbers-5).0.adds

pub returns-clause-padded : goal.returns-clause-padded
returns-clause-padded c =
    let made = whole (goal.at.returns-clause-padded c).After-join_numbers-5 in
    IfOk-weaker c.join_numbers-5.result _ _ (λ m is. IsPaddedNumber-made c.requires.level.0 (omega (arith, c.level.ensures)) made.0 (made.1 m is)) c.join_numbers-5.ensures.square
