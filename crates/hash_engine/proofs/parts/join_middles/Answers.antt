use Rattle.hash_engine.proofs.Names.{Contains, Grows-same, IfOk-weaker, StandForAll, StandsFor, ap, fours_of, map, middle, square_of_four, subst, suc, sym, ◌∙◌, ◌∷◌}
use Rattle.hash_engine.proofs.Standing.{◌⟫◌, StandsFor-joined, Adds-behind, first_listed, more_of, four_stand}
use Rattle.hash_engine.proofs.parts.join_middles.Goals as goal

pub returns-in_err-four-clause-adds : goal.returns-in_err-four-clause-adds
returns-in_err-four-clause-adds c = λ k ss are. Adds-behind (c.join_four.ensures.adds k _ (c.middles.ensures k ss are))

pub returns-clause-grows : goal.returns-clause-grows
returns-clause-grows c = c.in_ok-four.ensures.grows ⟫ c.join_numbers.ensures.grows

pub returns-clause-square : goal.returns-clause-square
returns-clause-square c = IfOk-weaker c.join_numbers.result _ _
    (λ r made k ss are.
    let q = c.middles.ensures k ss are in
    let u = c.join_four.new.table in
    let four = four_stand (subst (StandForAll u.rows (suc k) _) q.are (c.in_ok-four.ensures.squares k _ q)) in
    subst (StandsFor c.join_numbers.new.self.rows (suc (suc k)) r) (four.1 ∙ sym (ap square_of_four q.are))
    (StandsFor-joined four.0 c.join_numbers.ensures.grows made (Grows-same _)))
    c.join_numbers.ensures.square

pub returns-clause-adds : goal.returns-clause-adds
returns-clause-adds c = λ k ss are.
    let q = c.middles.ensures k ss are in
    let u = c.join_four.new.table in
    let four = four_stand (subst (StandForAll u.rows (suc k) _) q.are (c.in_ok-four.ensures.squares k _ q)) in
    let all = map middle (fours_of ss) in
    let has = subst (Contains (square_of_four all ∷ all)) (sym (four.1 ∙ sym (ap square_of_four q.are))) (first_listed (square_of_four all) all) in
    more_of (Adds-behind (c.in_ok-four.ensures.adds k _ q)) (Grows-same u) four.0 has c.join_numbers.ensures.grows c.join_numbers.ensures.one
