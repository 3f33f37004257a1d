use Rattle.multistate_macrocell.proofs.Names.{IfOk-weaker, arith, drawn, suc, sym, ◌-◌, ◌≡◌, ◌≤◌}
use Rattle.multistate_macrocell.proofs.Adding.{adds-cell, adds-four, four-row}
use Rattle.multistate_macrocell.proofs.Drawing.{cell-small, drawn-cell, drawn-four, halves}
use Rattle.multistate_macrocell.proofs.rows.+push_bitmap.Goals as goal

pub returns-then-level-eq0 : goal.returns-then-level-eq0
returns-then-level-eq0 t c =
    let bitmap = c.args.bitmap in
    let x = c.args.x in
    let y = c.args.y in
    let small = cell-small c.is_live.result c.from.result c.from.ensures in
    adds-cell c.args.rows.now.items c.args.level c.from.result (drawn bitmap c.args.level x y) c.requires.rows c.if-level-eq0.true small.below
    (drawn-cell bitmap c.args.level x y c.from.result c.is_live.result c.if-level-eq0.true (sym c.is_live.ensures) small.is)

pub push_bitmap-requires : goal.push_bitmap-requires
push_bitmap-requires t c =
    let up : c.args.level ≡ suc (c.args.level - 1) = omega arith in
    let across = halves up c.side-half.ensures.value c.requires.column in
    let down = halves up c.side-half.ensures.value c.requires.row in
    (omega arith, (c.requires.rows, (omega arith, (across.near, down.near))))

pub push_bitmap-requires-2 : goal.push_bitmap-requires-2
push_bitmap-requires-2 t c =
    let up : c.args.level ≡ suc (c.args.level - 1) = omega arith in
    let across = halves up c.side-half.ensures.value c.requires.column in
    let down = halves up c.side-half.ensures.value c.requires.row in
    (omega arith, (c.in_ok-nw.ensures.valid, (omega arith, (across.far, down.near))))

pub push_bitmap-requires-3 : goal.push_bitmap-requires-3
push_bitmap-requires-3 t c =
    let up : c.args.level ≡ suc (c.args.level - 1) = omega arith in
    let across = halves up c.side-half.ensures.value c.requires.column in
    let down = halves up c.side-half.ensures.value c.requires.row in
    (omega arith, (c.in_ok-ne.ensures.valid, (omega arith, (across.near, down.far))))

pub push_bitmap-requires-4 : goal.push_bitmap-requires-4
push_bitmap-requires-4 t c =
    let up : c.args.level ≡ suc (c.args.level - 1) = omega arith in
    let across = halves up c.side-half.ensures.value c.requires.column in
    let down = halves up c.side-half.ensures.value c.requires.row in
    (omega arith, (c.in_ok-sw.ensures.valid, (omega arith, (across.far, down.far))))

pub push_row-requires-clause-row : goal.push_row-requires-clause-row
push_row-requires-clause-row t c =
    let up : c.args.level ≡ suc (c.args.level - 1) = omega arith in
    let level : c.args.level ≤ 3 = c.requires.level in
    four-row _ _ _ _ _ _ _ _ _ _ _ _ _ _
    (record { first = c.in_ok-nw.ensures; second = c.in_ok-ne.ensures; third = c.in_ok-sw.ensures; fourth = c.in_ok-se.ensures })
    c.args.level up (omega arith)

pub returns : goal.returns
returns t c =
    let bitmap = c.args.bitmap in
    let k = c.args.level - 1 in
    let up : c.args.level ≡ suc k = omega arith in
    let is = drawn-four bitmap c.args.level k c.args.x c.args.y c.side-half.result up c.side-half.ensures.value in
    IfOk-weaker c.push_row.result _ _
    (λ n. adds-four _ _ _ _ _ _ _ _ _ _ _ _ _ _
    (record { first = c.in_ok-nw.ensures; second = c.in_ok-ne.ensures; third = c.in_ok-sw.ensures; fourth = c.in_ok-se.ensures })
    c.args.level n c.push_row.new.rows.items (drawn bitmap c.args.level c.args.x c.args.y) up is)
    c.push_row.ensures
