-- The replies to a script.
use Rattle.std.specs.Prelude.{ℕ, List, [], ◌∷◌, flat_map, zip, if◌then◌else◌}
use Rattle.text_lines.specs.Lines.{End, Ended, lines_until}
use Rattle.schedule.specs.Plan.{Plan}
use Rattle.desk_script.specs.Asks.{Ask, asks, Between}
use Rattle.desk_server.specs.Shortage.{Shortage, NoShortage}
use Rattle.desk_server.specs.Answer.{After, Session, opening_session, answer, session_after}

-- what is short for the next one asked, and for those after it; with none left nothing is
abbrev pub first_shortage : List Shortage → Shortage
first_shortage [] = NoShortage
first_shortage (w ∷ ws) = w

abbrev pub later_shortages : List Shortage → List Shortage
later_shortages [] = []
later_shortages (w ∷ ws) = ws

-- what is replied to each that is asked of the desk in this session, with the document after it
abbrev pub afters : Session → List Ask → List Shortage → List After
afters s [] shortages = []
afters s (ask ∷ rest) shortages =
    let after = answer (first_shortage shortages) s ask in
    after ∷ (if after.ends then []
    else afters (session_after s ask after.plan) rest (later_shortages shortages))

-- the document after a reply, unless the script ends with that
abbrev pub document_after : After → List Plan
document_after after = if after.ends then [] else after.plan ∷ []

abbrev pub documents_of : List After → List Plan
documents_of = flat_map document_after

-- what was asked, with what was replied to it
abbrev pub Answered : Type 0
Answered = Ask × After

-- each that was answered in this session
abbrev pub answered : Session → List Ask → List Shortage → List Answered
answered s asked shortages = zip asked (afters s asked shortages)

-- without the one that ends the script
abbrev pub unless_bye : Answered → List Answered
unless_bye one = if one.1.ends then [] else one ∷ []

abbrev pub but_bye : List Answered → List Answered
but_bye = flat_map unless_bye

-- the texts of replies
abbrev pub texts_of : List After → List ℕ
texts_of = flat_map (λ (after : After). after.told)

abbrev pub told_to : List Answered → List ℕ
told_to = flat_map (λ (one : Answered). one.1.told)

-- the replies to all
abbrev pub replies_to : Session → List Ask → List Shortage → List ℕ
replies_to s asked shortages = texts_of (afters s asked shortages)

-- the replies to a script, however its reading stopped, where the shortages say of one command
-- after another what is short for it
abbrev pub replies_by : End → List ℕ → List Shortage → List ℕ
replies_by stop script shortages =
    replies_to opening_session (asks stop Between 1 (lines_until stop script)) shortages

abbrev pub replies_with : List ℕ → List Shortage → List ℕ
replies_with = replies_by Ended

-- what is replied to each command of a script, with the document after it
abbrev pub afters_with : List ℕ → List Shortage → List After
afters_with script shortages =
    afters opening_session (asks Ended Between 1 (lines_until Ended script)) shortages

-- each command of a script that was answered, with what was replied to it, however its reading
-- stopped
abbrev pub answered_by : End → List ℕ → List Shortage → List Answered
answered_by stop script shortages =
    answered opening_session (asks stop Between 1 (lines_until stop script)) shortages

abbrev pub answered_with : List ℕ → List Shortage → List Answered
answered_with = answered_by Ended

-- the document after each reply to a script but `bye`, in order
abbrev pub documents_with : List ℕ → List Shortage → List Plan
documents_with script shortages = documents_of (afters_with script shortages)

-- the replies to a script for which nothing is short
abbrev pub replies : List ℕ → List ℕ
replies script = replies_with script []
