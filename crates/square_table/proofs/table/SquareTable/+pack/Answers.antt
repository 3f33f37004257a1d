use Rattle.square_table.proofs.Names.{IsNumber, List, None, arith, first_number, known_of, length, subst, sym, ℕ, ◌+◌, ◌-◌, ◌<◌, ◌∙◌, ◌≡◌, ◌≤◌}
use Rattle.square_table.specs.Packing.{IsPackStep}
use Rattle.square_table.proofs.Shared.Tables.{above_zero}
use Rattle.square_table.proofs.Packing.{found_still, level_suc, packed_more, packed_states, packs_none, packs_then, quadrant_numbers, recalled, unknown_new, walk_whole}
use Rattle.square_table.proofs.table.SquareTable.+pack.Goals as goal

-- a square that is looked for is in the table
there : (rows : List (List ℕ)) (k n : ℕ) → (k ≡ 0 → ⊥) → IsNumber rows k n → (first_number ≤ n) × (n < first_number + length rows)
there rows k n some is = above_zero rows k n (omega (arith, some)) is

pub pack_kids-find-nw_found-requires : goal.pack_kids-find-nw_found-requires
pack_kids-find-nw_found-requires t c =
    let is = there c.args.self.now.rows c.args.level _ c.if-level-eq0.false c.requires.kids.nw in
    record { above = is.0; there = is.1; packed = c.requires.packed }

pub pack_kids-find-ne_found-requires : goal.pack_kids-find-ne_found-requires
pack_kids-find-ne_found-requires t c =
    let is = there c.args.self.now.rows c.args.level _ c.if-level-eq0.false c.requires.kids.ne in
    record { above = is.0; there = is.1; packed = c.requires.packed }

pub pack_kids-find-sw_found-requires : goal.pack_kids-find-sw_found-requires
pack_kids-find-sw_found-requires t c =
    let is = there c.args.self.now.rows c.args.level _ c.if-level-eq0.false c.requires.kids.sw in
    record { above = is.0; there = is.1; packed = c.requires.packed }

pub pack_kids-find-se_found-requires : goal.pack_kids-find-se_found-requires
pack_kids-find-se_found-requires t c =
    let is = there c.args.self.now.rows c.args.level _ c.if-level-eq0.false c.requires.kids.se in
    record { above = is.0; there = is.1; packed = c.requires.packed }

pub pack_kids-pack_square-requires : goal.pack_kids-pack_square-requires
pack_kids-pack_square-requires t c =
    let low : 1 ≤ c.args.level = omega (arith, c.if-level-eq0.false) in
    let at0 = c.find-nw_found.ensures c.args.level low c.requires.kids.nw in
    (omega (arith, c.decreases), ((low, c.requires.level), (c.requires.kids.nw, (c.requires.packed, at0))))

pub pack_kids-pack_square-requires-2 : goal.pack_kids-pack_square-requires-2
pack_kids-pack_square-requires-2 t c =
    let low : 1 ≤ c.args.level = omega (arith, c.if-level-eq0.false) in
    let at0 = c.find-ne_found.ensures c.args.level low c.requires.kids.ne in
    let at1 = found_still c.args.self.now.rows c.args.level _ c.args.level _ _ _ _ c.find-ne_found.result c.in_ok-nw.ensures.walks at0 in
    (omega (arith, c.decreases), ((low, c.requires.level), (c.requires.kids.ne, (c.in_ok-nw.ensures.packs.packing, at1))))

pub pack_kids-pack_square-requires-3 : goal.pack_kids-pack_square-requires-3
pack_kids-pack_square-requires-3 t c =
    let low : 1 ≤ c.args.level = omega (arith, c.if-level-eq0.false) in
    let at0 = c.find-sw_found.ensures c.args.level low c.requires.kids.sw in
    let at1 = found_still c.args.self.now.rows c.args.level _ c.args.level _ _ _ _ c.find-sw_found.result c.in_ok-nw.ensures.walks at0 in
    let at2 = found_still c.args.self.now.rows c.args.level _ c.args.level _ _ _ _ c.find-sw_found.result c.in_ok-ne.ensures.walks at1 in
    (omega (arith, c.decreases), ((low, c.requires.level), (c.requires.kids.sw, (c.in_ok-ne.ensures.packs.packing, at2))))

pub pack_kids-pack_square-requires-4 : goal.pack_kids-pack_square-requires-4
pack_kids-pack_square-requires-4 t c =
    let low : 1 ≤ c.args.level = omega (arith, c.if-level-eq0.false) in
    let at0 = c.find-se_found.ensures c.args.level low c.requires.kids.se in
    let at1 = found_still c.args.self.now.rows c.args.level _ c.args.level _ _ _ _ c.find-se_found.result c.in_ok-nw.ensures.walks at0 in
    let at2 = found_still c.args.self.now.rows c.args.level _ c.args.level _ _ _ _ c.find-se_found.result c.in_ok-ne.ensures.walks at1 in
    let at3 = found_still c.args.self.now.rows c.args.level _ c.args.level _ _ _ _ c.find-se_found.result c.in_ok-sw.ensures.walks at2 in
    (omega (arith, c.decreases), ((low, c.requires.level), (c.requires.kids.se, (c.in_ok-sw.ensures.packs.packing, at3))))

pub pack_kids-returns-then-level-eq0-clause-walks : goal.pack_kids-returns-then-level-eq0-clause-walks
pack_kids-returns-then-level-eq0-clause-walks t c = packed_states c.args.self.now.rows c.args.packed.now.squares.items c.args.level c.args.kids c.if-level-eq0.true (grind (arith, c.ranges))

pub pack_kids-returns-then-level-eq0-clause-packs : goal.pack_kids-returns-then-level-eq0-clause-packs
pack_kids-returns-then-level-eq0-clause-packs t c = packs_none c.args.self.now.rows c.args.level c.args.packed.now c.requires.packed

pub pack_kids-returns-clause-walks : goal.pack_kids-returns-clause-walks
pack_kids-returns-clause-walks t c = grind (arith)

pub pack_kids-returns-clause-packs : goal.pack_kids-returns-clause-packs
pack_kids-returns-clause-packs t c = grind (arith, packs_then)

pub pack_square-returns-in-Some-clause-walks : goal.pack_square-returns-in-Some-clause-walks
pack_square-returns-in-Some-clause-walks t c = grind (arith, recalled)

pub pack_square-returns-in-Some-clause-packs : goal.pack_square-returns-in-Some-clause-packs
pack_square-returns-in-Some-clause-packs t c = packs_none c.args.self.now.rows c.args.level c.args.packed.now c.requires.packed

pub pack_square-pack_new-requires : goal.pack_square-pack_new-requires
pack_square-pack_new-requires t c =
    let none : known_of c.args.packed.now.numbers c.args.number ≡ None = sym c.get.ensures ∙ c.in_default.is in (
      omega (arith, c.decreases),
      (c.requires.level, (c.requires.number, (subst (IsPackStep c.args.self.now.rows c.args.level c.args.number c.args.packed.now.squares.items) c.in-Quadrants.is c.requires.found, (c.requires.packed, none)))),
    )

pub pack_new-pack_kids-requires : goal.pack_new-pack_kids-requires
pack_new-pack_kids-requires t c = (
  omega (arith, c.decreases, c.requires.level.0),
  (
    omega (arith, c.requires.level.1),
    (quadrant_numbers c.args.self.now.rows c.args.level c.args.number c.args.quadrants c.requires.level.0 c.requires.number c.requires.quadrants, c.requires.packed),
  ),
)

-- a square that wasn't seen before is not seen among its quadrants either
pub pack_new-complete-requires-clause-new : goal.pack_new-complete-requires-clause-new
pack_new-complete-requires-clause-new t c = grind (arith, unknown_new, level_suc)

pub pack_new-complete-requires-clause-few : goal.pack_new-complete-requires-clause-few
pack_new-complete-requires-clause-few t c = c.in_ok-kids.ensures.packs.packing.few

pub pack_new-returns-clause-walks : goal.pack_new-returns-clause-walks
pack_new-returns-clause-walks t c =
    let k = c.args.level in
    walk_whole c.args.self.now.rows k (k - 1) c.args.number c.args.quadrants c.in_ok-kids.kids c.args.packed.now.squares.items c.pack_kids.new.packed.squares.items c.complete.new.squares.items c.in_ok-known.known
    (level_suc k c.requires.level.0) c.requires.quadrants c.in_ok-kids.ensures.walks c.in_ok-known.ensures.rows c.in_ok-known.ensures.number

pub pack_new-returns-clause-packs : goal.pack_new-returns-clause-packs
pack_new-returns-clause-packs t c =
    let k = c.args.level in
    packed_more c.args.self.now.rows c.args.packed.now c.pack_kids.new.packed (record { squares = c.complete.new.squares; numbers = c.insert.new.self }) k (k - 1) c.args.number c.in_ok-known.known c.args.quadrants c.in_ok-kids.kids
    (level_suc k c.requires.level.0) (omega (arith, c.requires.level.1)) c.requires.packed c.in_ok-kids.ensures.packs c.requires.number c.requires.quadrants c.requires.new
    c.in_ok-kids.ensures.walks c.in_ok-known.ensures.rows c.in_ok-known.ensures.number c.in_ok-known.ensures.few c.insert.ensures
