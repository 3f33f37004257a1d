use Rattle.multistate_rle.proofs.Names.{Ok, [], ap, arith, drawn_by, inr, rules, runs_from, world_drawn, ℕ, ◌∙◌, ◌∷◌, ◌≡◌}
use Rattle.multistate_rle.proofs.Strips.{IsPlaced}
use Rattle.multistate_rle.proofs.Drawings.{IsEnd, begun, begun-digit, begun-rows, begun-cells, begun-end, drawn_on}
use Rattle.multistate_rle.proofs.read.read_body.Goals as goal
use Rattle.multistate_rle.proofs.read.read_body.Goals.{in-Some+in-End, in_default}

pub loop-symbol-init : goal.loop-symbol-init
loop-symbol-init c = rw c.new-drawing.ensures (begun c.args.origin c.args.symbols)

pub loop-symbol-preserved-in-Digit : goal.loop-symbol-preserved-in-Digit
loop-symbol-preserved-in-Digit c =
    begun-digit _ _ _ (omega arith) (c.in-Some.ensures ∙ ap (λ s. s ∷ c.next.new.self) c.in-Digit.is) c.loop-symbol.invariant

pub loop-symbol-preserved-in-Cell : goal.loop-symbol-preserved-in-Cell
loop-symbol-preserved-in-Cell c =
    let placed : IsPlaced c.args.origin = record { x = search rules; y = search rules } in
    let left = c.in-Some.ensures ∙ ap (λ s. s ∷ c.next.new.self) c.in-Cell.is in
    begun-cells _ _ _ _ placed c.max.ensures left c.draw.ensures c.loop-symbol.invariant

pub loop-symbol-preserved : goal.loop-symbol-preserved
loop-symbol-preserved c =
    begun-rows _ _ _ c.max-in-RowEnd.ensures (c.in-Some.ensures ∙ ap (λ s. s ∷ c.next.new.self) c.in-RowEnd.is) c.end_rows.ensures c.loop-symbol.invariant

pub returns-in-Unknown-clause-plane : goal.returns-in-Unknown-clause-plane
returns-in-Unknown-clause-plane c =
    let h = c.loop-symbol.invariant in
    inr (h.drawn ∙ ap (drawn_on c.args.origin h.front h.digits) (c.in-Some.ensures ∙ ap (λ s. s ∷ c.next.new.self) c.in-Unknown.is))

ended : (c : goal.After-plane) → IsEnd (world_drawn c.loop-symbol.drawing) (drawn_by c.args.origin c.args.symbols)
ended c =
    let none : (n : ℕ) → runs_from n c.loop-symbol.symbols ≡ Ok [] =
    elim c.match-next.branch [
      | in-Some+in-End w ↦ λ n. ap (runs_from n) (w.in-Some.ensures ∙ ap (λ s. s ∷ c.next.new.self) w.in-End.is)
      | in_default w ↦ λ n. ap (runs_from n) w.in_default.ensures
    ] in
    begun-end none c.loop-symbol.invariant

pub returns-clause-plane : goal.returns-clause-plane
returns-clause-plane c = (ended c).gives _ c.plane.ensures.plane

pub returns-clause-no_memory : goal.returns-clause-no_memory
returns-clause-no_memory c = λ is. (ended c).sound (c.plane.ensures.no_memory is)
