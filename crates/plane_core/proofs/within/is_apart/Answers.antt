use Rattle.std.proofs.Common.{◌^◌, ap, ◌∙◌, rules}
use Rattle.plane_core.proofs.within.is_apart.Goals as goal

pub returns-clause-apart : goal.returns-clause-apart
returns-clause-apart c = λ t x y h box.
    c.misses-2.ensures.apart t y (search rules) (search rules) (search rules) (search rules)

pub returns-clause-near : goal.returns-clause-near
returns-clause-near c = λ near unit.
    let one = c.side-side.ensures.value ∙ ap (λ k. 2 ^ k) unit in
    let across = c.misses.ensures.near (search rules) one in let down = c.misses-2.ensures.near near one in
    record { left = search (rules, across.0); right = search (rules, across.1); top = search (rules, down.0); bottom = search (rules, down.1) }
