-- Which of the refusals that are looked at in order an edit gets.
use Rattle.schedule.proofs.Names.{Acts, Bool, CellSet, Intervention, List, None, Option, Plan, Some, ap, element_at, false, first_refusal, for_changed, for_changed_intervention, if◌then◌else◌, intervention_id, option_map, subst, true}
use Rattle.schedule.proofs.Names.{sym, ℕ, ◌∙◌, ◌≡◌}
use Rattle.std.specs.Prelude.{MatchResult, Result}
use Rattle.schedule.specs.Change.{Checks, for_acting}
use Rattle.schedule.specs.declared.fault.EditFault.{EditFault}

-- a refusal that applies is the answer
pub stop : {b : Bool} (fault : EditFault) (rest : Option EditFault) → b ≡ true
    → (if b then Some fault else rest) ≡ Some fault
stop fault rest applies = ap (λ t. if t then Some fault else rest) applies

-- one that doesn't is passed over
pub pass : {b : Bool} (fault : EditFault) {rest o : Option EditFault} → b ≡ false → rest ≡ o
    → (if b then Some fault else rest) ≡ o
pass fault {rest} applies is = ap (λ t. if t then Some fault else rest) applies ∙ is

-- refusals of which the same applies are answered alike
pub checks_same : {A : Type 0} (result : Result A EditFault) (from to : List (Bool × EditFault))
    → first_refusal to ≡ first_refusal from → Checks result from → Checks result to
checks_same result from to same =
    subst (λ o. MatchResult result (λ _. o ≡ None) (λ fault. o ≡ Some fault)) (sym same)

-- of an intervention that is there its own branch is looked at
pub changed_there : (p : Plan) (id : ℕ) (acts : Acts) (cells : List CellSet) (i : Intervention)
    → Some i ≡ element_at intervention_id p.interventions id
    → for_changed_intervention p id acts cells
    ≡ for_acting p (Some i.branch) acts cells (for_changed p id acts cells)
changed_there p id acts cells i is =
    ap
    (λ o. for_acting p (option_map (λ (x : Intervention). x.branch) o) acts cells (for_changed p id acts cells))
    (sym is)
