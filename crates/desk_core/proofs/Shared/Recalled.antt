-- Jobs that are out after what was computed before was entered.
use Rattle.desk_core.proofs.Names.{BookState, EntersSteps, Job, Known, Need, Some, Stays, Value, ap, expected, inl, inr, job_of, recalls_row, row_of, sym, ◌∙◌, ◌≡◌}

-- a job that is out then was out before
pub recalls_out : (d e : BookState) (need : Need) (out : Job) → EntersSteps d e → expected e need ≡ Some out
    → expected d need ≡ Some out
recalls_out d e need out h is = by_row (recalls_row d e need h)
  where
    known_none : (v : Value) → job_of (Known v) ≡ Some out → ⊥
    known_none v h = cc

    by_row : Stays (row_of d need) (row_of e need) → expected d need ≡ Some out
    by_row (inl same) = sym (ap job_of same) ∙ is
    by_row (inr k) = absurd (known_none k.1.0 (sym (ap job_of k.1.1) ∙ is))
