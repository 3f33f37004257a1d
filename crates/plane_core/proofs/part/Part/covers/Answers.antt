use Rattle.std.proofs.Common.{◌^◌, rules, sym, refl}
use Rattle.plane_core.proofs.Parts.{moved}
use Rattle.plane_core.proofs.part.Part.covers.Goals as goal

pub returns : goal.returns
returns c =
    let p = c.args.self in let x = c.args.spot.x in let y = c.args.spot.y in
    let across = c.spans.ensures.0 (search rules) in (
      λ t. (let down = c.spans-2.ensures.0 t in
          moved c.side-side.result (2 ^ p.level) p.corner.x p.corner.x p.corner.y p.corner.y x y c.side-side.ensures.value refl refl
          (record { left = search (rules, across.0); right = search (rules, across.1); top = search (rules, down.0); bottom = search (rules, down.1) })),
      λ h. (let at = moved (2 ^ p.level) c.side-side.result p.corner.x p.corner.x p.corner.y p.corner.y x y (sym c.side-side.ensures.value) refl refl h in
          c.spans-2.ensures.1 (search rules, search rules)),
    )
