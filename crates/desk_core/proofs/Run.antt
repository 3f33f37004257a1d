-- Calls on a desk are calls on the desk of the law that it shows.
use Rattle.desk_core.proofs.Names.{BookState, List, [], ap, opened, subst, ◌∷◌}
use Rattle.desk_events.specs.Core.{Core}
use Rattle.desk_events.specs.Law as core
use Rattle.desk_events.specs.Right.{IsShown}
use Rattle.desk_events.specs.Core.{shown}
use Rattle.desk_events.proofs.Shared.Called.{calls_are_events}
use Rattle.desk_events.proofs.Shared.Stays.{shows_only_scratch}
use Rattle.dependency_book.specs.Core.{core_of}
use Rattle.dependency_book.proofs.Shared.Opened.{opened_core}
use Rattle.desk_core.specs.Run.{AreCalls, ShowsOnlyScratch}

abbrev cores : List BookState → List Core
cores [] = []
cores (d ∷ ds) = core_of d ∷ cores ds

shown_calls : (desks : List BookState) (c d : BookState) → AreCalls desks c d
    → core.AreCalls (cores desks) (core_of c) (core_of d)
shown_calls [] c d h = ap core_of h
shown_calls (x ∷ desks) c d h = (h.0, shown_calls desks x d h.1)

pub calls_show_scratch : ShowsOnlyScratch
calls_show_scratch table revision desks d h id =
    let calls = subst (λ c. core.AreCalls (cores desks) c (core_of d)) (opened_core table revision)
    (shown_calls desks (opened table revision) d h) in
    let reached = calls_are_events revision (cores desks) (core_of d) calls in
    subst (λ (c : Core). IsShown c.plan id (shown c id)) reached.2
    (shows_only_scratch revision reached.0 reached.1 id)
