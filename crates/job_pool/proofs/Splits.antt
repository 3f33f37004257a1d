-- What is sent into one of two queues is sent by both together.
use Rattle.job_pool.proofs.Names.{List, Slip, [], ap, arith, floor_of, floor_push, subst, sym, ℕ, ◌++◌, ◌+◌, ◌∙◌, ◌∷◌, ◌≡◌, ◌≤◌}
use Rattle.std.proofs.lemmas.List.Sums.{sum_by_push}
use Rattle.job_pool.specs.Lanes.{IsSplit}

-- the floor lies no lower behind one more slip from the floor on
floor_rises : (sent : List Slip) (slip : Slip) → floor_of sent ≤ slip.number → floor_of sent ≤ floor_of (sent ++ slip ∷ [])
floor_rises sent slip le = omega (arith, le, floor_push 0 sent slip)

pub split_step : (steps views sent : List Slip) (slip : Slip) → floor_of sent ≤ slip.number → IsSplit steps views sent
    → IsSplit (steps ++ slip ∷ []) views (sent ++ slip ∷ [])
split_step steps views sent slip le split = record {
  parts = λ weight. omega (arith, split.parts weight, sum_by_push weight sent slip, sum_by_push weight steps slip);
  steps_below = omega (arith, floor_push 0 sent slip, floor_push 0 steps slip);
  views_below = omega (arith, split.views_below, floor_rises sent slip le);
}

pub split_view : (steps views sent : List Slip) (slip : Slip) → floor_of sent ≤ slip.number → IsSplit steps views sent
    → IsSplit steps (views ++ slip ∷ []) (sent ++ slip ∷ [])
split_view steps views sent slip le split = record {
  parts = λ weight. omega (arith, split.parts weight, sum_by_push weight sent slip, sum_by_push weight views slip);
  steps_below = omega (arith, split.steps_below, floor_rises sent slip le);
  views_below = omega (arith, floor_push 0 sent slip, floor_push 0 views slip);
}

-- the same, where the lists and the slip that was noted are known by equations
pub then_split_step : (steps views sent after noted_sent : List Slip) (slip noted : Slip)
    → after ≡ steps ++ slip ∷ [] → noted ≡ slip → noted_sent ≡ sent ++ noted ∷ []
    → floor_of sent ≤ slip.number → IsSplit steps views sent → IsSplit after views noted_sent
then_split_step steps views sent after noted_sent slip noted a n s le split =
    subst (λ xs. IsSplit xs views noted_sent) (sym a)
    (subst (λ ys. IsSplit (steps ++ slip ∷ []) views ys) (sym (s ∙ ap (λ x. sent ++ x ∷ []) n))
    (split_step steps views sent slip le split))

pub then_split_view : (steps views sent after noted_sent : List Slip) (slip noted : Slip)
    → after ≡ views ++ slip ∷ [] → noted ≡ slip → noted_sent ≡ sent ++ noted ∷ []
    → floor_of sent ≤ slip.number → IsSplit steps views sent → IsSplit steps after noted_sent
then_split_view steps views sent after noted_sent slip noted a n s le split =
    subst (λ xs. IsSplit steps xs noted_sent) (sym a)
    (subst (λ ys. IsSplit steps (views ++ slip ∷ []) ys) (sym (s ∙ ap (λ x. sent ++ x ∷ []) n))
    (split_view steps views sent slip le split))

-- and the floor is one more than the number
pub floor_then : (sent after : List Slip) (slip noted : Slip) (n : ℕ) → n ≡ slip.number → noted ≡ slip
    → after ≡ sent ++ noted ∷ [] → n + 1 ≡ floor_of after
floor_then sent after slip noted n e same s =
    ap (λ k. k + 1) (e ∙ ap (λ x. x.number) (sym same)) ∙ sym (ap floor_of s ∙ floor_push 0 sent noted)
