-- The texts of the replies.
use Rattle.std.specs.Prelude.{ℕ, List, ◌++◌, Option, None, Some, length, codes, decimal}
use Rattle.std.specs.Option.{option_map_or}
use Rattle.script_help.specs.Commands.{command_list}
use Rattle.desk_core.specs.declared.cause.Cause.{Cause}
use Rattle.desk_core.specs.Cause.{cause_number}
use Rattle.desk_server.specs.Faults.{Fault}

-- a line's end, with a number before it if there is one
abbrev pub with_number : List ℕ → Option ℕ → List ℕ
with_number before None = codes "\n"
with_number before (Some n) = before ++ (decimal n ++ codes "\n")

-- an edit was accepted: the revision after it, and a number behind its word, if there is one
abbrev pub accepted_text : ℕ → List ℕ → Option ℕ → List ℕ
accepted_text revision word number = codes "ok " ++ (decimal revision ++ with_number word number)

-- every bookmark is current
abbrev pub settled_text : List ℕ
settled_text = codes "settled\n"

-- jobs for what isn't known were sent
abbrev pub working_text : List ℕ
working_text = codes "working\n"

-- so many bookmarks are pending, for this cause, or 0 for none
abbrev pub unsettled_text : ℕ → Option Cause → List ℕ
unsettled_text pending cause =
    codes "unsettled "
    ++ (decimal pending
    ++ (codes " " ++ (decimal (option_map_or cause_number cause 0) ++ codes "\n")))

-- so many bookmarks are pending still, with a cause if one was met
abbrev pub polled_text : ℕ → Option Cause → List ℕ
polled_text pending None = codes "polled " ++ (decimal pending ++ codes "\n")
polled_text pending (Some cause) =
    codes "polled "
    ++ (decimal pending ++ (codes " " ++ (decimal (cause_number cause) ++ codes "\n")))

-- a script, and how many bytes it has
abbrev pub scripted_text : List ℕ → List ℕ
scripted_text script = script ++ (codes "scripted " ++ (decimal (length script) ++ codes "\n"))

-- a bookmark's text, after a line with its length
abbrev pub current_text : ℕ → List ℕ → List ℕ
current_text id text =
    codes "bookmark "
    ++ (decimal id ++ (codes " current " ++ (decimal (length text) ++ (codes "\n" ++ text))))

-- a bookmark's text isn't known
abbrev pub pending_text : ℕ → List ℕ
pending_text id = codes "bookmark " ++ (decimal id ++ codes " pending\n")

-- a refusal
abbrev pub refused_text : Fault → List ℕ
refused_text fault =
    codes "refused "
    ++ (decimal fault.number ++ (codes " " ++ (fault.name ++ with_number (codes " ") fault.place)))

-- the list of the commands, after a line with its length
abbrev pub help_text : List ℕ
help_text =
    codes "help " ++ (decimal (length command_list) ++ (codes "\n" ++ command_list))

-- the script ends
abbrev pub bye_text : List ℕ
bye_text = codes "bye\n"
