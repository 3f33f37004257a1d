use Rattle.multistate_rle.proofs.Names.{SFits, arith, ints, is_in_range, of_z, pos, rules, to_z, ℤ, ◌&&◌, ◌+ℤ◌, ◌+◌, ◌-ℤ◌, ◌-◌, ◌∙◌, ◌≡◌}
use mir.Syntax.{w64, w128}
use Rattle.multistate_rle.proofs.drawing.Drawing.has_room.Goals as goal

-- a number of 128 bits, as the code passes it on
abbrev passed : ℤ → ℤ
passed z = to_z w128 (of_z w128 z)

pub returns : goal.returns
returns c =
    let d = c.self.inside in
    let x : SFits w64 d.origin.x = search rules in
    let y : SFits w64 d.origin.y = search rules in
    let first = c.shifted-first.result in
    let left : passed first ≡ d.origin.x +ℤ pos d.column = omega (arith, ints) in
    let right : passed (passed (passed first +ℤ passed c.from.result) -ℤ pos 1) ≡ d.origin.x +ℤ pos (d.column + c.args.count - 1) = omega (arith, ints) in
    let height : passed c.shifted-y.result ≡ d.origin.y +ℤ pos d.row = omega (arith, ints) in
    rw (← c.self.view_is) (c.are_in_range.ensures ∙ λ i. is_in_range (left i) && (is_in_range (right i) && is_in_range (height i)))
