-- What each command does to a document, and what is replied.
use Rattle.std.specs.Prelude.{ℕ, ◌==◌, ◌&&◌, nat_le, List, [], length, Bool, true, false, if◌then◌else◌, codes, Option, None, Some, Result, Ok, Err}
use Rattle.rule_tree.specs.declared.rule.Rule.{Rule as FileRule}
use Rattle.rule_tree.specs.Rule.{rule_of}
use Rattle.worlds.specs.World.{World}
use Rattle.plane_core.specs.declared.loaded.Loaded.{Loaded}
use Rattle.multistate_rle.specs.Pattern.{pattern_of}
use Rattle.multistate_macrocell.specs.Pattern as macrocells
use Rattle.schedule.specs.declared.fault.EditFault.TheVariants.{NoMemory, NoSuchBookmark}
use Rattle.schedule.specs.declared.document.Bookmark.{Bookmark}
use Rattle.schedule.specs.Plan.{Plan, opening}
use Rattle.schedule.specs.Asked.{Asked, asked_of, Insert, ReplaceStart, ReplaceRule, AddBookmark, AddBranch}
use Rattle.schedule.specs.Change.{Changed, change}
use Rattle.schedule.specs.Scratch.{scratch}
use Rattle.desk_events.specs.Wanted.{bookmark_in}
use Rattle.desk_script.specs.declared.fault.ScriptFault.TheVariants.{BadCommand, NoEnd}
use Rattle.desk_script.specs.declared.format.Format.{Format}
use Rattle.desk_script.specs.declared.format.Format.TheVariants as format
use Rattle.desk_script.specs.declared.command.Command.{Command}
use Rattle.desk_script.specs.declared.command.Command.TheVariants as command
use Rattle.desk_script.specs.Asks.{Ask, Obey, Take, Refuse}
use Rattle.desk_script.specs.Scripted.{script_text}
use Rattle.desk_server.specs.Faults.{Fault, of_rule, of_pattern, of_macrocell, of_edit, of_script}
use Rattle.desk_server.specs.Listed.{listed_text}
use Rattle.desk_server.specs.Reply.{scripted_text, accepted_text, settled_text, working_text, unsettled_text, polled_text, current_text, pending_text, refused_text, help_text, bye_text}
use Rattle.desk_server.specs.Shortage.{Shortage, Unread, Memory, Unsettled, Pending, Still, Known}

-- what a script's commands are answered by: the document, and the text of the rule that was taken
-- last, if one was
pub record Session : Type 0 where
  pub plan : Plan
  pub rule_text : Option (List ℕ)

-- what the first command of a script is answered by
abbrev pub opening_session : Session
opening_session = record { plan = opening 0; rule_text = None }

-- what is replied, the document after it, and whether the script ends
pub record After : Type 0 where
  pub told : List ℕ
  pub plan : Plan
  pub ends : Bool

-- a reply that changes nothing
abbrev pub only : Plan → List ℕ → After
only p text = record { told = text; plan = p; ends = false }

abbrev pub refused : Plan → Fault → After
refused p fault = only p (refused_text fault)

abbrev pub no_memory : Plan → After
no_memory p = refused p (of_edit NoMemory)

-- what isn't read is out of memory, whatever it says
abbrev pub unless_unread : Shortage → Plan → After → After
unless_unread Unread p after = no_memory p
unless_unread _ p after = after

-- what can be done isn't where memory is short for it
abbrev pub unless_memory : Shortage → Plan → After → After
unless_memory Memory p after = no_memory p
unless_memory _ p after = after

-- what is done with a value that was found, or the refusal for its fault
abbrev pub unless_fault : {A E : Type 0} → Plan → (E → Fault) → (A → After) → Result A E → After
unless_fault p refusal done (Ok value) = done value
unless_fault p refusal done (Err fault) = refused p (refusal fault)

-- an edit was made, which is replied with a number behind this word, if there is one
abbrev pub accepted : Changed → List ℕ → Option ℕ → After
accepted c word number =
    record { told = accepted_text c.edited.revision word number; plan = c.plan; ends = false }

-- the word before the id that an edit gives, if it gives one
abbrev pub id_word : Asked → List ℕ
id_word (Insert b acts cells) = codes " intervention "
id_word (AddBookmark b generation view) = codes " bookmark "
id_word (AddBranch parent generation) = codes " branch "
id_word _ = []

-- an edit was made, or refused for its fault; where it has none, memory may be short for it
abbrev pub edited_as : Shortage → Plan → Asked → List ℕ → (Changed → Option ℕ) → After
edited_as short p asked word number =
    unless_fault p of_edit (λ (c : Changed). unless_memory short p (accepted c word (number c)))
    (change p asked)

-- so it was, and told with the id that it gives, if it gives one
abbrev pub edited : Shortage → Plan → Asked → After
edited short p asked =
    edited_as short p asked (id_word asked) (λ (c : Changed). c.edited.id)

-- a start was taken or refused, whose file names this generation
abbrev pub started : Shortage → Plan → ℕ → World → After
started short p generation start =
    edited_as short p (ReplaceStart start) (codes " gen ") (λ _. Some generation)

-- what a text of a format means was taken or refused
abbrev pub taken : Shortage → Plan → Format → List ℕ → After
taken short p format.Rule text =
    unless_fault p of_rule (λ (rule : FileRule). edited short p (ReplaceRule rule)) (rule_of text)
taken short p format.Rle text =
    unless_fault p of_pattern (λ (loaded : Loaded). started short p loaded.generation loaded.plane)
    (pattern_of text)
taken short p format.Macrocell text =
    unless_fault p of_macrocell
    (λ (loaded : Loaded). started short p loaded.generation loaded.plane)
    (macrocells.pattern_of text)

-- all texts were computed, or a shortage leaves some bookmarks pending
abbrev pub settled : Shortage → Plan → After
settled (Unsettled n cause) p =
    if nat_le 1 n && nat_le n (length p.bookmarks) then only p (unsettled_text n cause)
    else only p settled_text
settled _ p = only p settled_text

-- a bookmark of the document is shown with the text that starting over gives, unless a shortage
-- left it pending
abbrev pub there : Shortage → Plan → ℕ → Bookmark → After
there Pending p id b = only p (pending_text id)
there _ p id b = only p (current_text id (scratch p b))

-- a bookmark is shown, if there is one
abbrev pub shown : Shortage → Plan → ℕ → Option Bookmark → After
shown short p id None = refused p (of_edit NoSuchBookmark)
shown short p id (Some b) = there short p id b

-- no bookmark is pending any more, or so many of the document's are, with a cause if one was met
abbrev pub polled : Shortage → Plan → After
polled (Still n cause) p =
    if nat_le n (length p.bookmarks) then only p (polled_text n cause)
    else only p (polled_text 0 None)
polled _ p = only p (polled_text 0 None)

-- what the document has is listed, each bookmark as current unless its text isn't known
abbrev pub listed : Shortage → Plan → After
listed (Known known) p = only p (listed_text p known)
listed _ p = only p (listed_text p (λ _. true))

-- the script that makes the document anew
abbrev pub scripted : Shortage → Session → After
scripted short s =
    unless_memory short s.plan (only s.plan (scripted_text (script_text s.rule_text s.plan)))

-- a bookmark is asked for by its id
abbrev pub shown_id : Shortage → Plan → ℕ → After
shown_id short p id = shown short p id (bookmark_in p.bookmarks id)

-- a command
abbrev pub obeyed : Shortage → Session → Command → After
obeyed short s (command.Edit edit) =
    unless_unread short s.plan (edited short s.plan (asked_of edit))
obeyed short s command.Settle = settled short s.plan
obeyed short s command.Work = only s.plan working_text
obeyed short s (command.Show id) = unless_unread short s.plan (shown_id short s.plan id)
obeyed short s (command.Peek id) = unless_unread short s.plan (shown_id short s.plan id)
obeyed short s command.Poll = polled short s.plan
obeyed short s command.List = listed short s.plan
obeyed short s command.Script = unless_unread short s.plan (scripted short s)
obeyed short s command.Help = only s.plan help_text
obeyed short s command.Quit = record { told = bye_text; plan = s.plan; ends = true }

-- what is replied to what is asked; a shortage that can't stand against it counts as none
abbrev pub answer : Shortage → Session → Ask → After
answer short s (Obey command) = obeyed short s command
answer short s (Take format text) = unless_unread short s.plan (taken short s.plan format text)
answer short s (Refuse (BadCommand line)) = unless_unread short s.plan
    (refused s.plan (of_script (BadCommand line)))
answer short s (Refuse (NoEnd line)) = refused s.plan (of_script (NoEnd line))

-- the text of the rule after an answer that leaves this document: that of a rule that was taken,
-- which made one more revision, or the one before
abbrev pub rule_text_after : Session → Ask → Plan → Option (List ℕ)
rule_text_after s (Take format.Rule text) p =
    if p.revision == s.plan.revision then s.rule_text else Some text
rule_text_after s (Take format.Rle text) p = s.rule_text
rule_text_after s (Take format.Macrocell text) p = s.rule_text
rule_text_after s (Obey command) p = s.rule_text
rule_text_after s (Refuse fault) p = s.rule_text

-- what the next one is answered by
abbrev pub session_after : Session → Ask → Plan → Session
session_after s ask p = record { plan = p; rule_text = rule_text_after s ask p }
