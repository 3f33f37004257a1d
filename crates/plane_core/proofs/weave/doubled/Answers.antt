use Rattle.plane_core.proofs.Names.{AreMadeTo, IsOutOfRow, arith, refl, subst, sym, ◌*◌, ◌+◌, ◌/◌, ◌∙◌, ◌≡◌}
use Rattle.plane_core.proofs.Strips.{first_none}
use Rattle.plane_core.proofs.Woven.{left-then, made-end, made-pair, made-row, one_answer, pair-row, row-next, same-later}
use Rattle.plane_core.proofs.weave.doubled.Goals as goal
use Rattle.plane_core.proofs.weave.doubled.Goals.{then-is_in_row, else-is_in_row}

pub made-requires-clause-row : goal.made-requires-clause-row
made-requires-clause-row c =
    let x = c.squares.x in let y = c.squares.y in
    let strips = c.args.strips.now in
    let i = c.squares.invariant in
    pair-row c.args.rows.now.items c.squares.rows.items c.args.level strips c.past-north.result.now c.past-south.result.now x y c.pair_at-end.result.end _ c.requires.level.0 c.requires.level.1 refl c.requires.numbers i.made.keeps
    (left-then strips c.squares.north.now c.past-north.result.now (2 * x) (2 * y) i.north c.past-north.ensures)
    (left-then strips c.squares.south.now c.past-south.result.now (2 * x) (2 * y + 1) i.south c.past-south.ensures) c.pair_at-end.ensures

pub returns-in_default : goal.returns-in_default
returns-in_default c =
    let x = c.squares.x in let y = c.squares.y in
    let strips = c.args.strips.now in
    let north = c.past-north.result.now in let south = c.past-south.result.now in
    let i = c.squares.invariant in
    let out : IsOutOfRow north (2 * y) × IsOutOfRow south (2 * y + 1) = elim c.if-is_in_row.branch [
      | then-is_in_row w ↦ absurd (one_answer c.if-is_in_row.value c.is_in_row.result w.value-is w.if-is_in_row.true c.if-is_in_row-2.false)
      | else-is_in_row w ↦ (c.is_in_row.ensures.out w.if-is_in_row.false, w.is_in_row-else-is_in_row.ensures.out (sym w.value-is ∙ c.if-is_in_row-2.false))
    ] in
    made-end strips north south x y
    (left-then strips c.squares.north.now north (2 * x) (2 * y) i.north c.past-north.ensures)
    (left-then strips c.squares.south.now south (2 * x) (2 * y + 1) i.south c.past-south.ensures) c.past-north.ensures.ahead c.past-south.ensures.ahead out.0 out.1
    c.args.rows.now.items c.squares.rows.items c.args.level c.squares.found.items c.requires.level.0 i.made (first_none south c.in_default.ensures.value)

pub squares-smaller : goal.squares-smaller
squares-smaller c =
    let x = c.squares.x in let y = c.squares.y in
    let strips = c.args.strips.now in
    let north = c.past-north.result.now in let south = c.past-south.result.now in
    let i = c.squares.invariant in
    let out : IsOutOfRow north (2 * y) × IsOutOfRow south (2 * y + 1) = elim c.if-is_in_row.branch [
      | then-is_in_row w ↦ absurd (one_answer c.if-is_in_row.value c.is_in_row.result w.value-is w.if-is_in_row.true c.if-is_in_row-2.false)
      | else-is_in_row w ↦ (c.is_in_row.ensures.out w.if-is_in_row.false, w.is_in_row-else-is_in_row.ensures.out (sym w.value-is ∙ c.if-is_in_row-2.false))
    ] in
    let left_n = left-then strips c.squares.north.now north (2 * x) (2 * y) i.north c.past-north.ensures in
    let left_s = left-then strips c.squares.south.now south (2 * x) (2 * y + 1) i.south c.past-south.ensures in
    let next = row-next strips north south x y left_n left_s c.past-north.ensures.ahead c.past-south.ensures.ahead out.0 out.1 c.in-Some.first.now c.in-Some.ensures.value in
    omega (arith, next, c.row_above-y.ensures.value)

pub squares-preserved : goal.squares-preserved
squares-preserved c =
    let x = c.squares.x in let y = c.squares.y in
    let strips = c.args.strips.now in
    let north = c.past-north.result.now in let south = c.past-south.result.now in
    let i = c.squares.invariant in
    let out : IsOutOfRow north (2 * y) × IsOutOfRow south (2 * y + 1) = elim c.if-is_in_row.branch [
      | then-is_in_row w ↦ absurd (one_answer c.if-is_in_row.value c.is_in_row.result w.value-is w.if-is_in_row.true c.if-is_in_row-2.false)
      | else-is_in_row w ↦ (c.is_in_row.ensures.out w.if-is_in_row.false, w.is_in_row-else-is_in_row.ensures.out (sym w.value-is ∙ c.if-is_in_row-2.false))
    ] in
    let left_n = left-then strips c.squares.north.now north (2 * x) (2 * y) i.north c.past-north.ensures in
    let left_s = left-then strips c.squares.south.now south (2 * x) (2 * y + 1) i.south c.past-south.ensures in
    let next = row-next strips north south x y left_n left_s c.past-north.ensures.ahead c.past-south.ensures.ahead out.0 out.1 c.in-Some.first.now c.in-Some.ensures.value in
    let f = c.in-Some.first.now in
    let row : f.y / 2 ≡ c.row_above-y.result = sym c.row_above-y.ensures.value in
    let made = made-row strips north south x y left_n left_s c.past-north.ensures.ahead c.past-south.ensures.ahead out.0 out.1
    c.args.rows.now.items c.squares.rows.items c.args.level c.squares.found.items f c.requires.level.0 i.made c.in-Some.ensures.value next in
    record {
      made = subst (λ j. AreMadeTo c.args.rows.now.items c.squares.rows.items c.args.level strips c.squares.found.items 0 j) row made;
      north = same-later strips south (2 * x) (2 * y + 1) 0 (2 * c.row_above-y.result) left_s (record { row = omega (arith, next, row); column = λ e. absurd (omega (arith, next, row, e)) });
      south = same-later strips south (2 * x) (2 * y + 1) 0 (2 * c.row_above-y.result + 1) left_s (record { row = omega (arith, next, row); column = λ e. absurd (omega (arith, next, row, e)) });
      across = omega arith;
      down = omega arith;
    }

pub squares-preserved-then-is_in_row-2 : goal.squares-preserved-then-is_in_row-2
squares-preserved-then-is_in_row-2 c =
    let x = c.squares.x in let y = c.squares.y in let end = c.pair_at-end.result.end in let n = c.in_ok-number.number in
    let strips = c.args.strips.now in
    let north = c.past-north.result.now in let south = c.past-south.result.now in
    let i = c.squares.invariant in
    let pair = c.pair_at-end.ensures in
    let more = pair.more in
    let left_n = left-then strips c.squares.north.now north (2 * x) (2 * y) i.north c.past-north.ensures in
    let left_s = left-then strips c.squares.south.now south (2 * x) (2 * y + 1) i.south c.past-south.ensures in
    record {
      made = made-pair c.args.rows.now.items c.squares.rows.items c.made.new.rows.items c.args.level strips north south c.squares.found.items c.extend.new.strips.items x y end n c.pair_at-end.result.kids
          (record { x = x; end = end; y = y; number = n }) c.requires.numbers i.made left_n left_s pair c.in_ok-number.ensures refl refl refl refl c.in_ok-extend.ensures;
      north = same-later strips north (2 * x) (2 * y) (2 * end) (2 * y) left_n (record { row = omega arith; column = λ e. omega (arith, more) });
      south = same-later strips south (2 * x) (2 * y + 1) (2 * end) (2 * y + 1) left_s (record { row = omega arith; column = λ e. omega (arith, more) });
      across = pair.far;
      down = i.down;
    }
