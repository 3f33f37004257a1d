-- What starting over gives for a row.
use Rattle.desk_events.proofs.Names.{Plan, Some, Step, ap, arrival, arrival-start, pattern, sym, wanted, ◌≡◌}

-- what arrives at the start
pub start_arrives : (p : Plan) → p.start ≡ arrival p 0 0
start_arrives p = sym (arrival-start p)

pub start_wanted : (p : Plan) → wanted p (Step 0 0) ≡ Some (pattern p.start)
start_wanted p = ap (λ w. Some (pattern w)) (sym (start_arrives p))
