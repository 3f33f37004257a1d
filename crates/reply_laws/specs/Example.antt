-- Worked answers to a script, of which the law speaks.
use Rattle.std.specs.Prelude.{ℕ, List, [], ◌∷◌, false}
use Rattle.schedule.specs.declared.fault.EditFault.TheVariants.{NoSuchBookmark}
use Rattle.schedule.specs.Plan.{opening}
use Rattle.revision_jobs.specs.Posted.{PostView}
use Rattle.desk_script.specs.Asks.{Obey}
use Rattle.desk_script.specs.declared.command.Command.TheVariants as command
use Rattle.desk_server.specs.Listed.{listed_text}
use Rattle.desk_server.specs.Answer.{only, refused}
use Rattle.desk_server.specs.Desks.{AnswersAtDesks}
use Rattle.desk_server.specs.Faults.{of_edit}
use Rattle.desk_server.specs.Reply.{settled_text, working_text}
use Rattle.desk_server.specs.Script.{Answered}

-- the list of what the opening document has
abbrev pub listed_first : List ℕ
listed_first = listed_text (opening 0) (λ _. false)

-- at a desk of the opening document jobs are sent, all is settled and listed, and a bookmark that
-- isn't there is asked for
abbrev pub first_answers : List Answered
first_answers =
    (Obey command.Work, only (opening 0) working_text)
    ∷ (Obey command.Settle, only (opening 0) settled_text)
    ∷ (Obey command.List, only (opening 0) listed_first)
    ∷ (Obey (command.Show 1), refused (opening 0) (of_edit NoSuchBookmark))
    ∷ []

-- they are given, over whatever post
abbrev pub FirstAnswersAreGiven : Type 0
FirstAnswersAreGiven = (post : PostView) → AnswersAtDesks post.is_prompt first_answers
