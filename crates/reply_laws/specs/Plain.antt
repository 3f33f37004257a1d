-- Replies that show a shortage.
use Rattle.std.specs.Prelude.{◌≡◌, ◌⊎◌, ℕ, ◌<◌, Bool, false, List, [], Option, IsSome}
use Rattle.std.specs.List.{AllByRecursion, list_all}
use Rattle.schedule.specs.Plan.{Plan}
use Rattle.schedule.specs.declared.fault.EditFault.TheVariants.{NoMemory}
use Rattle.desk_core.specs.declared.cause.Cause.{Cause}
use Rattle.desk_script.specs.Asks.{Ask}
use Rattle.desk_server.specs.Faults.{of_edit}
use Rattle.desk_server.specs.Reply.{unsettled_text, pending_text, polled_text, refused_text}
use Rattle.desk_server.specs.Listed.{listed_text}
use Rattle.desk_server.specs.Shortage.{Shortage, Unsettled, IsCausedOver, AllCausedOver}
use Rattle.desk_server.specs.Answer.{After, Session}
use Rattle.desk_server.specs.Script.{afters}

-- the reply is that bookmarks are pending, for a cause if the post is prompt
abbrev pub ShowsUnsettled : Bool → List ℕ → Type 0
ShowsUnsettled prompt told =
    (n : ℕ) × (cause : Option Cause) × IsCausedOver prompt (Unsettled n cause)
    × (told ≡ unsettled_text n cause)

-- the reply to a poll is that bookmarks are pending, or that a cause was met
abbrev pub ShowsStill : List ℕ → Type 0
ShowsStill told =
    (n : ℕ) × (cause : Option Cause) × ((0 < n) ⊎ IsSome cause) × (told ≡ polled_text n cause)

-- the reply lists a bookmark whose text isn't known
abbrev pub ListsPending : List ℕ → Type 0
ListsPending told =
    (p : Plan) × (known : ℕ → Bool) × (list_all (λ b. known b.id) p.bookmarks ≡ false)
    × (told ≡ listed_text p known)

-- the reply is that memory is short, that bookmarks are pending, or that one is
abbrev pub ShowsShortage : Bool → List ℕ → Type 0
ShowsShortage prompt told =
    (told ≡ refused_text (of_edit NoMemory))
    ⊎ (ShowsUnsettled prompt told
    ⊎ (((id : ℕ) × (told ≡ pending_text id)) ⊎ (ShowsStill told ⊎ ListsPending told)))

-- none of the replies shows a shortage
abbrev pub NoneShows : Bool → List After → Type 0
NoneShows prompt = AllByRecursion (λ (after : After). ShowsShortage prompt after.told → ⊥)

-- then they are the replies where nothing is short
abbrev pub PlainWithoutShortages : Type 0
PlainWithoutShortages =
    (prompt : Bool) (s : Session) (asked : List Ask) (shortages : List Shortage)
    → AllCausedOver prompt shortages
    → NoneShows prompt (afters s asked shortages) → afters s asked shortages ≡ afters s asked []
