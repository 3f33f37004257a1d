use Rattle.hash_engine.proofs.Names.{AreNumbers, Grows-same, IsNumber, List, StandForAll, ap, kids_at, nine_of, subst, suc, sym, ℕ, ◌≡◌}
use Rattle.hash_engine.proofs.Standing.{◌⟫◌, above, within, kids_of, StandsFor-grows, StandsFor-joined, sixteen, StandForAll-nil, StandForAll-cons, unchanged, unchanged_by, adds_nine}
use Rattle.hash_engine.proofs.parts.nine.Goals as goal

-- a square's quadrants
kids : (rows : List (List ℕ)) (k n : ℕ) {ks : List ℕ} → IsNumber rows (suc (suc k)) n → ks ≡ kids_at rows n → AreNumbers rows (suc k) ks
kids rows k n {ks} is listed = (kids_of rows (suc k) n ks is listed).0

pub quadrants-requires-clause-above : goal.quadrants-requires-clause-above
quadrants-requires-clause-above c = above c.args.table.now.rows _ c.args.number c.requires.1

pub quadrants-requires-clause-there : goal.quadrants-requires-clause-there
quadrants-requires-clause-there c = within c.args.table.now.rows _ c.args.number c.requires.1

pub quadrants-requires-2-clause-above : goal.quadrants-requires-2-clause-above
quadrants-requires-2-clause-above c = above c.args.table.now.rows _ _ (kids c.args.table.now.rows _ c.args.number c.requires.1 c.quadrants.ensures).nw

pub quadrants-requires-2-clause-there : goal.quadrants-requires-2-clause-there
quadrants-requires-2-clause-there c = within c.args.table.now.rows _ _ (kids c.args.table.now.rows _ c.args.number c.requires.1 c.quadrants.ensures).nw

pub quadrants-requires-3-clause-above : goal.quadrants-requires-3-clause-above
quadrants-requires-3-clause-above c = above c.args.table.now.rows _ _ (kids c.args.table.now.rows _ c.args.number c.requires.1 c.quadrants.ensures).ne

pub quadrants-requires-3-clause-there : goal.quadrants-requires-3-clause-there
quadrants-requires-3-clause-there c = within c.args.table.now.rows _ _ (kids c.args.table.now.rows _ c.args.number c.requires.1 c.quadrants.ensures).ne

pub quadrants-requires-4-clause-above : goal.quadrants-requires-4-clause-above
quadrants-requires-4-clause-above c = above c.args.table.now.rows _ _ (kids c.args.table.now.rows _ c.args.number c.requires.1 c.quadrants.ensures).sw

pub quadrants-requires-4-clause-there : goal.quadrants-requires-4-clause-there
quadrants-requires-4-clause-there c = within c.args.table.now.rows _ _ (kids c.args.table.now.rows _ c.args.number c.requires.1 c.quadrants.ensures).sw

pub quadrants-requires-5-clause-above : goal.quadrants-requires-5-clause-above
quadrants-requires-5-clause-above c = above c.args.table.now.rows _ _ (kids c.args.table.now.rows _ c.args.number c.requires.1 c.quadrants.ensures).se

pub quadrants-requires-5-clause-there : goal.quadrants-requires-5-clause-there
quadrants-requires-5-clause-there c = within c.args.table.now.rows _ _ (kids c.args.table.now.rows _ c.args.number c.requires.1 c.quadrants.ensures).se

pub returns-in_err-north-clause-adds : goal.returns-in_err-north-clause-adds
returns-in_err-north-clause-adds c =
    adds_nine c.quadrants.ensures c.quadrants-2.ensures c.quadrants-3.ensures c.quadrants-4.ensures c.quadrants-5.ensures c.join_guessed.ensures.grows c.join_guessed.ensures.one
    unchanged (unchanged_by _) unchanged (unchanged_by _) unchanged (unchanged_by _) unchanged (unchanged_by _)

pub returns-in_err-north-clause-grows : goal.returns-in_err-north-clause-grows
returns-in_err-north-clause-grows c = c.join_guessed.ensures.grows

pub returns-in_err-west-clause-grows : goal.returns-in_err-west-clause-grows
returns-in_err-west-clause-grows c = c.in_ok-north.ensures.grows ⟫ c.join_guessed-2.ensures.grows

pub returns-in_err-centre-clause-grows : goal.returns-in_err-centre-clause-grows
returns-in_err-centre-clause-grows c = c.in_ok-north.ensures.grows ⟫ c.in_ok-west.ensures.grows ⟫ c.join_guessed-3.ensures.grows

pub returns-in_err-east-clause-grows : goal.returns-in_err-east-clause-grows
returns-in_err-east-clause-grows c = c.in_ok-north.ensures.grows ⟫ c.in_ok-west.ensures.grows ⟫ c.in_ok-centre.ensures.grows ⟫ c.join_guessed-4.ensures.grows

pub returns-in_err-south-clause-grows : goal.returns-in_err-south-clause-grows
returns-in_err-south-clause-grows c = c.in_ok-north.ensures.grows ⟫ c.in_ok-west.ensures.grows ⟫ c.in_ok-centre.ensures.grows ⟫ c.in_ok-east.ensures.grows ⟫ c.join_guessed-5.ensures.grows

pub returns-clause-squares : goal.returns-clause-squares
returns-clause-squares c = λ k s whole.
    let q = sixteen whole c.quadrants.ensures c.quadrants-2.ensures c.quadrants-3.ensures c.quadrants-4.ensures c.quadrants-5.ensures in
    let t = c.args.table.now in
    let all = c.join_guessed-5.new.self in
    let north = c.in_ok-north.ensures in
    let west = c.in_ok-west.ensures in
    let centre = c.in_ok-centre.ensures in
    let east = c.in_ok-east.ensures in
    let south = c.in_ok-south.ensures in
    let two = north.grows ⟫ west.grows in
    let last = east.grows ⟫ south.grows in
    let five = two ⟫ centre.grows ⟫ last in
    subst (StandForAll all.rows (suc k) _) (sym (ap nine_of q.is))
    (StandForAll-cons (StandsFor-grows t all _ _ _ five q.a) (StandForAll-cons (StandsFor-joined q.north north.grows north.square (west.grows ⟫ centre.grows ⟫ last))
    (StandForAll-cons (StandsFor-grows t all _ _ _ five q.b) (StandForAll-cons (StandsFor-joined q.west two west.square (centre.grows ⟫ last))
    (StandForAll-cons (StandsFor-joined q.centre (two ⟫ centre.grows) centre.square last)
    (StandForAll-cons (StandsFor-joined q.east (two ⟫ centre.grows ⟫ east.grows) east.square south.grows) (StandForAll-cons (StandsFor-grows t all _ _ _ five q.c)
    (StandForAll-cons (StandsFor-joined q.south five south.square (Grows-same all)) (StandForAll-cons (StandsFor-grows t all _ _ _ five q.d)
    StandForAll-nil)))))))))

pub returns-in_err-west-clause-adds : goal.returns-in_err-west-clause-adds
returns-in_err-west-clause-adds c =
    adds_nine c.quadrants.ensures c.quadrants-2.ensures c.quadrants-3.ensures c.quadrants-4.ensures c.quadrants-5.ensures c.in_ok-north.ensures.grows c.in_ok-north.ensures.one
    c.join_guessed-2.ensures.grows c.join_guessed-2.ensures.one unchanged (unchanged_by _) unchanged (unchanged_by _) unchanged (unchanged_by _)

pub returns-in_err-centre-clause-adds : goal.returns-in_err-centre-clause-adds
returns-in_err-centre-clause-adds c =
    adds_nine c.quadrants.ensures c.quadrants-2.ensures c.quadrants-3.ensures c.quadrants-4.ensures c.quadrants-5.ensures c.in_ok-north.ensures.grows c.in_ok-north.ensures.one
    c.in_ok-west.ensures.grows c.in_ok-west.ensures.one c.join_guessed-3.ensures.grows c.join_guessed-3.ensures.one unchanged (unchanged_by _) unchanged (unchanged_by _)

pub returns-in_err-east-clause-adds : goal.returns-in_err-east-clause-adds
returns-in_err-east-clause-adds c =
    adds_nine c.quadrants.ensures c.quadrants-2.ensures c.quadrants-3.ensures c.quadrants-4.ensures c.quadrants-5.ensures c.in_ok-north.ensures.grows c.in_ok-north.ensures.one
    c.in_ok-west.ensures.grows c.in_ok-west.ensures.one c.in_ok-centre.ensures.grows c.in_ok-centre.ensures.one c.join_guessed-4.ensures.grows c.join_guessed-4.ensures.one unchanged (unchanged_by _)

pub returns-in_err-south-clause-adds : goal.returns-in_err-south-clause-adds
returns-in_err-south-clause-adds c =
    adds_nine c.quadrants.ensures c.quadrants-2.ensures c.quadrants-3.ensures c.quadrants-4.ensures c.quadrants-5.ensures c.in_ok-north.ensures.grows c.in_ok-north.ensures.one
    c.in_ok-west.ensures.grows c.in_ok-west.ensures.one c.in_ok-centre.ensures.grows c.in_ok-centre.ensures.one c.in_ok-east.ensures.grows c.in_ok-east.ensures.one c.join_guessed-5.ensures.grows c.join_guessed-5.ensures.one

pub returns-clause-adds : goal.returns-clause-adds
returns-clause-adds c =
    adds_nine c.quadrants.ensures c.quadrants-2.ensures c.quadrants-3.ensures c.quadrants-4.ensures c.quadrants-5.ensures c.in_ok-north.ensures.grows c.in_ok-north.ensures.one
    c.in_ok-west.ensures.grows c.in_ok-west.ensures.one c.in_ok-centre.ensures.grows c.in_ok-centre.ensures.one c.in_ok-east.ensures.grows c.in_ok-east.ensures.one c.in_ok-south.ensures.grows c.in_ok-south.ensures.one

pub returns-clause-grows : goal.returns-clause-grows
returns-clause-grows c =
    c.in_ok-north.ensures.grows ⟫ c.in_ok-west.ensures.grows ⟫ c.in_ok-centre.ensures.grows ⟫ c.in_ok-east.ensures.grows ⟫ c.in_ok-south.ensures.grows
