use Rattle.plain_steps.proofs.Names.{List, [], ap₂, arith, around, get_or, ints, length, length-set, pos, sym, take_all, take_more, take_more_set, ℕ, ◌++◌, ◌<◌, ◌∙◌, ◌∷◌, ◌≡◌, ◌≤◌}
use Rattle.worlds.proofs.Shared.Cells.{same_cell}
use Rattle.plain_steps.proofs.Offsets.{near_at, state_at}
use Rattle.plain_steps.proofs.generation.Generation.states_around.Goals as goal

pub loop-i-preserved : goal.loop-i-preserved
loop-i-preserved c =
    let w = c.args.self.now in
    let x = c.args.spot.x in
    let y = c.args.spot.y in
    let i = c.loop-i.i in
    let below : i < 9 = omega arith in
    let within : i < length c.loop-i.states = omega (arith, c.loop-i.invariant.nine) in
    let near = near_at i (record { x = pos 0; y = pos 0 }) below in
    let state : c.state.result ≡ get_or (around w x y) i 0 =
    c.state.ensures ∙ same_cell w _ _ _ _ (omega (arith, ints)) (omega (arith, ints)) ∙ sym (state_at w x y i (record { x = pos 0; y = pos 0 }) below) in
    record {
      states = take_more_set c.loop-i.states i c.state.result within ∙ ap₂ (λ (ss : List ℕ) (s : ℕ). ss ++ s ∷ []) c.loop-i.invariant.states state ∙ sym (take_more (around w x y) i 0 below);
      nine = length-set c.loop-i.states i c.state.result ∙ c.loop-i.invariant.nine;
    }

pub returns : goal.returns
returns c =
    let all : 9 ≤ c.loop-i.i = omega arith in
    sym (take_all c.loop-i.i c.loop-i.states (omega (arith, c.loop-i.invariant.nine)))
    ∙ c.loop-i.invariant.states
    ∙ take_all c.loop-i.i (around c.args.self.now c.args.spot.x c.args.spot.y) all
