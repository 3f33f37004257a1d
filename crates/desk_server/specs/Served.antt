-- The reply to what was heard of a script.
use Rattle.std.specs.Prelude.{◌≡◌, ℕ, List, [], ◌∷◌, Bool, if◌then◌else◌, Option, None, Some, IsOk, ⊤}
use Rattle.rule_file.specs.RuleFile.{file_of}
use Rattle.multistate_rle.specs.Pattern as rle
use Rattle.multistate_macrocell.specs.Pattern as macrocells
use Rattle.script_lines.specs.KeptText.{IsText}
use Rattle.schedule.specs.Plan.{Plan}
use Rattle.dependency_book.specs.BookState.{BookState}
use Rattle.desk_script.specs.Asks.{Ask, Take}
use Rattle.desk_script.specs.Heard.{IsReadAs}
use Rattle.desk_script.specs.declared.format.Format.{Format}
use Rattle.desk_script.specs.declared.format.Format.TheVariants as format
use Rattle.desk_script.specs.declared.request.Request.{Request}
use Rattle.desk_server.specs.Shortage.{Shortage, NoShortage, Unread, Memory, IsCausedOver}
use Rattle.desk_server.specs.Answer.{After, Session, answer, no_memory, taken, unless_unread}
use Rattle.desk_server.specs.Answer.{rule_text_after}
use Rattle.desk_server.specs.Told.{reply_text, ends}
use Rattle.desk_server.specs.declared.reply.Reply.{Reply}

-- the desk that is left, the reply and whether the script ends are those of an answer
abbrev pub GivesAnswer : After → Reply → BookState → Type 0
GivesAnswer after reply new =
    after ≡ record { told = reply_text new reply; plan = new.plan; ends = ends reply }

-- they are those of an answer, for some shortage; over a prompt post it has a cause
abbrev pub GivesAnswerBy : Bool → (Shortage → After) → Reply → BookState → Type 0
GivesAnswerBy prompt after reply new =
    (shortage : Shortage) × IsCausedOver prompt shortage × GivesAnswer (after shortage) reply new

-- memory may run out for a text of a format while it is read: a rule's has a name and a table or a
-- tree, and a pattern's reader may want some
abbrev pub MayWant : Format → List ℕ → Type 0
MayWant format.Rule text = IsOk (file_of text)
MayWant format.Rle text = rle.MayWant text
MayWant format.Macrocell text = macrocells.MayWant text

-- what can be short where such a text is taken that was kept: memory to read it, if some may be
-- wanted, or to make the edit
abbrev pub IsShortOf : Format → List ℕ → Shortage → Type 0
IsShortOf format text NoShortage = ⊤
IsShortOf format text Unread = MayWant format text
IsShortOf format text Memory = ⊤
IsShortOf format text _ = ⊥

-- what such a text is answered by
abbrev pub answer_to_text : Shortage → Plan → Format → List ℕ → After
answer_to_text short p format text = unless_unread short p (taken short p format text)

-- the reply to a text that was kept is that of taking what it means, or that memory is short
abbrev pub TakesBytes : Format → List ℕ → Reply → BookState → BookState → Type 0
TakesBytes format text reply old new =
    (shortage : Shortage) × IsShortOf format text shortage
    × GivesAnswer (answer_to_text shortage old.plan format text) reply new

-- so it is, and the reply to one that wasn't kept is that it isn't read, whatever bytes it has
abbrev pub TakesText : Format → Option (List ℕ) → Reply → BookState → BookState → Type 0
TakesText format (Some text) reply old new = TakesBytes format text reply old new
TakesText format None reply old new = GivesAnswer (no_memory old.plan) reply new

-- the text of a rule that is taken is kept
abbrev pub kept_text : Format → Bool → Option (List ℕ) → Option (List ℕ) → Option (List ℕ)
kept_text format.Rule is_taken text rule = if is_taken then text else rule
kept_text format.Rle is_taken text rule = rule
kept_text format.Macrocell is_taken text rule = rule

-- the session of a desk, with the text of its rule if it has one
abbrev pub session : BookState → Option (List ℕ) → Session
session d rule = record { plan = d.plan; rule_text = rule }

-- whatever the request asks, they are those of the answer to that
abbrev pub AnswersRequest : Bool → Request → Reply → Session → BookState → Type 0
AnswersRequest prompt request reply s new =
    (ask : Ask) → IsReadAs request ask
    → GivesAnswerBy prompt (λ short. answer short s ask) reply new

-- and the rule has the text that it has after that
abbrev pub KeepsText : Request → Session → BookState → Option (List ℕ) → Type 0
KeepsText request s new rule =
    (ask : Ask) → IsReadAs request ask → rule ≡ rule_text_after s ask new.plan

-- the same where a text is taken
abbrev pub KeepsTaken
    : Format → Option (List ℕ) → Session → BookState → Option (List ℕ) → Type 0
KeepsTaken format text s new rule =
    (bytes : List ℕ) → IsText text bytes → rule ≡ rule_text_after s (Take format bytes) new.plan

-- the reply to what was asked by this request, and the rule's text after that
abbrev pub Served
    : Bool → Request → Reply → List Ask → Session → BookState → Option (List ℕ) → Type 0
Served prompt request reply asked s new rule =
    (ask : Ask) × (asked ≡ ask ∷ []) × GivesAnswerBy prompt (λ short. answer short s ask) reply new
    × IsReadAs request ask × (rule ≡ rule_text_after s ask new.plan)
