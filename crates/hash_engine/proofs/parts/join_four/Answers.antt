use Rattle.hash_engine.proofs.Names.{Grows-same, StandForAll, subst, suc, sym}
use Rattle.hash_engine.proofs.Standing.{◌⟫◌, StandsFor-joined, StandForAll-nil, StandForAll-cons, unchanged, unchanged_by, adds_four}
use Rattle.hash_engine.proofs.parts.join_four.Goals as goal

pub returns-clause-squares : goal.returns-clause-squares
returns-clause-squares c = λ k ss q.
    let nw = c.in_ok-nw.ensures in
    let ne = c.in_ok-ne.ensures in
    let sw = c.in_ok-sw.ensures in
    let se = c.in_ok-se.ensures in
    let all = c.join_guessed-4.new.self in
    subst (StandForAll all.rows (suc k) _) (sym q.are)
    (StandForAll-cons (StandsFor-joined q.nw nw.grows nw.square (ne.grows ⟫ sw.grows ⟫ se.grows))
    (StandForAll-cons (StandsFor-joined q.ne (nw.grows ⟫ ne.grows) ne.square (sw.grows ⟫ se.grows))
    (StandForAll-cons (StandsFor-joined q.sw (nw.grows ⟫ ne.grows ⟫ sw.grows) sw.square se.grows)
    (StandForAll-cons (StandsFor-joined q.se (nw.grows ⟫ ne.grows ⟫ sw.grows ⟫ se.grows) se.square (Grows-same all)) StandForAll-nil))))

pub returns-in_err-ne-clause-adds : goal.returns-in_err-ne-clause-adds
returns-in_err-ne-clause-adds c =
    adds_four c.in_ok-nw.ensures.grows c.in_ok-nw.ensures.one c.join_guessed-2.ensures.grows c.join_guessed-2.ensures.one unchanged (unchanged_by _) unchanged (unchanged_by _)

pub returns-in_err-sw-clause-adds : goal.returns-in_err-sw-clause-adds
returns-in_err-sw-clause-adds c =
    adds_four c.in_ok-nw.ensures.grows c.in_ok-nw.ensures.one c.in_ok-ne.ensures.grows c.in_ok-ne.ensures.one c.join_guessed-3.ensures.grows c.join_guessed-3.ensures.one unchanged (unchanged_by _)

pub returns-in_err-se-clause-adds : goal.returns-in_err-se-clause-adds
returns-in_err-se-clause-adds c =
    adds_four c.in_ok-nw.ensures.grows c.in_ok-nw.ensures.one c.in_ok-ne.ensures.grows c.in_ok-ne.ensures.one c.in_ok-sw.ensures.grows c.in_ok-sw.ensures.one c.join_guessed-4.ensures.grows c.join_guessed-4.ensures.one

pub returns-clause-adds : goal.returns-clause-adds
returns-clause-adds c =
    adds_four c.in_ok-nw.ensures.grows c.in_ok-nw.ensures.one c.in_ok-ne.ensures.grows c.in_ok-ne.ensures.one c.in_ok-sw.ensures.grows c.in_ok-sw.ensures.one c.in_ok-se.ensures.grows c.in_ok-se.ensures.one

pub returns-in_err-nw-clause-grows : goal.returns-in_err-nw-clause-grows
returns-in_err-nw-clause-grows c = c.join_guessed.ensures.grows

pub returns-in_err-ne-clause-grows : goal.returns-in_err-ne-clause-grows
returns-in_err-ne-clause-grows c = c.in_ok-nw.ensures.grows ⟫ c.join_guessed-2.ensures.grows

pub returns-in_err-sw-clause-grows : goal.returns-in_err-sw-clause-grows
returns-in_err-sw-clause-grows c = c.in_ok-nw.ensures.grows ⟫ c.in_ok-ne.ensures.grows ⟫ c.join_guessed-3.ensures.grows

pub returns-in_err-se-clause-grows : goal.returns-in_err-se-clause-grows
returns-in_err-se-clause-grows c = c.in_ok-nw.ensures.grows ⟫ c.in_ok-ne.ensures.grows ⟫ c.in_ok-sw.ensures.grows ⟫ c.join_guessed-4.ensures.grows

pub returns-clause-grows : goal.returns-clause-grows
returns-clause-grows c = c.in_ok-nw.ensures.grows ⟫ c.in_ok-ne.ensures.grows ⟫ c.in_ok-sw.ensures.grows ⟫ c.in_ok-se.ensures.grows

pub returns-in_err-nw-clause-adds : goal.returns-in_err-nw-clause-adds
returns-in_err-nw-clause-adds c = adds_four c.join_guessed.ensures.grows c.join_guessed.ensures.one unchanged (unchanged_by _) unchanged (unchanged_by _) unchanged (unchanged_by _)
