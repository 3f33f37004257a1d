-- The calls of a settling, a poll or a feeding are calls of which the law speaks.
use Rattle.desk_core.proofs.Names.{BookState, Call, ComesBy, [], ap, inl, inr, ◌∷◌}
use Rattle.desk_events.specs.Law.{IsCall}
use Rattle.dependency_book.specs.Core.{core_of}
use Rattle.desk_core.specs.Calls.{cancels, collects, issues, refuses}
use Rattle.desk_core.specs.Run.{AreOfLaw}
use Rattle.desk_core.specs.declared.collect.Collected.TheVariants.{Accepted, Released, Stale}
use Rattle.desk_core.specs.declared.issue.IssueFault.TheVariants.{NoMemory, NumbersSpent}

is_call : (call : Call) (c d : BookState) → ComesBy call c d → IsCall (core_of c) (core_of d)
is_call (issues job) c d h = inl (_, h.1.is.event)
is_call (refuses NumbersSpent) c d h = inr (ap core_of h.2)
is_call (refuses NoMemory) c d h = inr (ap core_of h.2)
is_call (collects answer Accepted) c d h = inl (_, h.event)
is_call (collects answer (Released fault)) c d h = inl (_, h.event)
is_call (collects answer (Stale number revision)) c d h = inr h.event
is_call (cancels number) c d h = inl (_, h.event)

pub calls_of_law : AreOfLaw
calls_of_law [] c e same = ([], same)
calls_of_law (call ∷ calls) c e h =
    let rest = calls_of_law calls h.0 e h.2 in (h.0 ∷ rest.0, (is_call call c h.0 h.1, rest.1))
