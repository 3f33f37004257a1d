-- Whatever calls are made on a desk, one after another.
use Rattle.std.specs.Prelude.{◌≡◌, ℕ, List, [], ◌∷◌}
use Rattle.revision_jobs.specs.declared.entries.Entries.{Entries}
use Rattle.desk_events.specs.Core.{shown}
use Rattle.desk_events.specs.Law.{IsCall}
use Rattle.desk_events.specs.Right.{IsShown}
use Rattle.dependency_book.specs.BookState.{BookState, opened}
use Rattle.dependency_book.specs.Core.{core_of}
use Rattle.desk_core.specs.Calls.{Call, ComesByAll}

-- each of these desks comes of the one before by a call
abbrev pub AreCalls : List BookState → BookState → BookState → Type 0
AreCalls [] c e = e ≡ c
AreCalls (d ∷ ds) c e = IsCall (core_of c) (core_of d) × AreCalls ds d e

-- calls that lead from one desk to another are such calls
abbrev pub AreOfLaw : Type 0
AreOfLaw =
    (calls : List Call) (c e : BookState) → ComesByAll calls c e
    → (desks : List BookState) × AreCalls desks c e

-- since it was opened: each bookmark is shown with the text that starting over gives for the
-- present document, or as pending
abbrev pub ShowsOnlyScratch : Type 0
ShowsOnlyScratch =
    (table : Entries) (revision : ℕ) (desks : List BookState) (d : BookState)
    → AreCalls desks (opened table revision) d
    → (id : ℕ) → IsShown d.plan id (shown (core_of d) id)
