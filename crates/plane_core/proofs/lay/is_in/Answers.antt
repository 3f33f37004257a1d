use Rattle.plane_core.proofs.Names.{arith, ints, rules, ◌^◌, ◌≡◌}
use Rattle.plane_core.proofs.lay.is_in.Goals as goal

pub returns : goal.returns
returns c =
    let down = c.spans.ensures.0 (search rules) in
    let size : c.side.result ≡ 2 ^ c.args.part.level = c.side.ensures.value in
    let end = c.end_of.ensures in
    let right = c.right_of.ensures in
    let not = c.if-span-part.false in (
      λ t. record { top = search (rules, down.0); bottom = omega (arith, ints); left = omega (arith, ints); right = omega (arith, ints) },
      λ h. grind (arith, ints),
    )
