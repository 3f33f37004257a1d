use Rattle.plane_core.proofs.Names.{[], get_or, quadrant_of, ◌∷◌}
use Rattle.plane_core.proofs.Laying.{IsDrawnState, drawn-at, drawn-block}
use Rattle.plane_core.proofs.Shared.Sound.{each_of_four}
use Rattle.plane_core.proofs.lay.drawn_states.Goals as goal

pub returns : goal.returns
returns c =
    let p = c.args.part in
    let s = c.args.span.now in
    let old = c.args.states in
    let new = c.drawn_state.result ∷ c.drawn_state-2.result ∷ c.drawn_state-3.result ∷ c.drawn_state-4.result ∷ [] in
    drawn-block p s old new c.requires.span c.requires.states
    (each_of_four (λ q. IsDrawnState s (quadrant_of p q 0).corner (get_or old q 0) (get_or new q 0))
    (drawn-at s c.quadrant_corner.result (quadrant_of p 0 0).corner (get_or old 0 0) c.drawn_state.result c.quadrant_corner.ensures.x c.quadrant_corner.ensures.y c.drawn_state.ensures.inside c.drawn_state.ensures.outside)
    (drawn-at s c.quadrant_corner-2.result (quadrant_of p 1 0).corner (get_or old 1 0) c.drawn_state-2.result c.quadrant_corner-2.ensures.x c.quadrant_corner-2.ensures.y c.drawn_state-2.ensures.inside c.drawn_state-2.ensures.outside)
    (drawn-at s c.quadrant_corner-3.result (quadrant_of p 2 0).corner (get_or old 2 0) c.drawn_state-3.result c.quadrant_corner-3.ensures.x c.quadrant_corner-3.ensures.y c.drawn_state-3.ensures.inside c.drawn_state-3.ensures.outside)
    (drawn-at s c.quadrant_corner-4.result (quadrant_of p 3 0).corner (get_or old 3 0) c.drawn_state-4.result c.quadrant_corner-4.ensures.x c.quadrant_corner-4.ensures.y c.drawn_state-4.ensures.inside c.drawn_state-4.ensures.outside))
