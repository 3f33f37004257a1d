-- What a run leaves read and written.
use Rattle.std.specs.Prelude.{◌≡◌, ℕ, Bool, List, ◌++◌, Option, Some}
use Rattle.std.specs.Io.KnownBytes.{Appends}
use Rattle.script_lines.specs.Ahead.{Ahead, TakesBytes}
use Rattle.text_lines.specs.Lines.{End, Ended, Broken, lines_until}
use Rattle.script_lines.specs.Faults.{AppendsFront}
use Rattle.revision_jobs.specs.Posted.{PostView}
use Rattle.desk_script.specs.Asks.{asks, Between}
use Rattle.desk_server.specs.Shortage.{Shortage, AllCausedOver}
use Rattle.desk_server.specs.Answer.{Session}
use Rattle.desk_server.specs.Script.{Answered, answered, answered_by, answered_with}
use Rattle.desk_server.specs.Script.{but_bye, replies_by, replies_with, told_to}
use Rattle.desk_server.specs.Desks.{AnswersAtDesks, AnswersOver}

-- something was heard and answered: whatever follows, the answers are those that were given, which
-- were written, and then those to what follows; and `noted` holds of those but `bye`
pub record Answers (noted : List Answered → Type 0) (prompt : Bool) (old new : Ahead)
    (before after : Option (List ℕ)) (p q : Session) (n m : ℕ)
    : Type 0 where
  pub bytes : List ℕ
  pub shortages : List Shortage
  pub caused : AllCausedOver prompt shortages
  pub given : List Answered
  pub taken : TakesBytes old new bytes
  pub wrote : Appends before after (told_to given)
  pub notes : noted (but_bye given)
  pub law : (stop : End) (more : List ℕ) (later : List Shortage)
      → answered p (asks stop Between n (lines_until stop (bytes ++ more))) (shortages ++ later)
      ≡ given ++ answered q (asks stop Between m (lines_until stop more)) later

-- the script was answered to its end, and `noted` holds of the answers but `bye`
pub record Finishes (noted : List Answered → Type 0) (prompt : Bool) (old new : Ahead)
    (before after : Option (List ℕ)) (p : Session) (n : ℕ)
    : Type 0 where
  pub bytes : List ℕ
  pub shortages : List Shortage
  pub caused : AllCausedOver prompt shortages
  pub taken : TakesBytes old new bytes
  pub given : List Answered
  pub wrote : Appends before after (told_to given)
  pub notes : noted (but_bye given)
  pub law : (rest : List ℕ) → new.bytes ≡ Some rest
      → answered p (asks Ended Between n (lines_until Ended (bytes ++ rest))) shortages ≡ given

-- some answers were given, and a beginning of their replies was written; and `noted` holds of those
-- but `bye`
pub record StopsTelling (noted : List Answered → Type 0) (prompt : Bool) (old new : Ahead)
    (before after : Option (List ℕ)) (p : Session) (n : ℕ)
    : Type 0 where
  pub bytes : List ℕ
  pub shortages : List Shortage
  pub caused : AllCausedOver prompt shortages
  pub taken : TakesBytes old new bytes
  pub given : List Answered
  pub wrote : AppendsFront before after (told_to given)
  pub notes : noted (but_bye given)
  pub law : (rest : List ℕ) → new.bytes ≡ Some rest → (later : List Answered)
      × (answered p (asks Ended Between n (lines_until Ended (bytes ++ rest))) shortages
      ≡ given ++ later)

-- what the reader gave was answered as far as commands were read whole, each at the desk that it
-- left
pub record AnswersWhole (prompt : Bool) (old new : Ahead) (before after : Option (List ℕ))
    : Type 0 where
  pub read : List ℕ
  pub shortages : List Shortage
  pub caused : AllCausedOver prompt shortages
  pub taken : TakesBytes old new read
  pub wrote : Appends before after (replies_by Broken read shortages)
  pub desks : AnswersAtDesks prompt (but_bye (answered_by Broken read shortages))

-- the replies to the script were written, for some shortages, each at the desk that its command
-- left
pub record AnswersAll (prompt : Bool) (before after : Option (List ℕ)) (script : List ℕ)
    : Type 0 where
  pub shortages : List Shortage
  pub caused : AllCausedOver prompt shortages
  pub wrote : Appends before after (replies_with script shortages)
  pub desks : AnswersAtDesks prompt (but_bye (answered_with script shortages))

-- so they were, over a post that was this and became that
pub record AnswersAllOver (p q : PostView) (before after : Option (List ℕ)) (script : List ℕ)
    : Type 0 where
  pub shortages : List Shortage
  pub caused : AllCausedOver p.is_prompt shortages
  pub wrote : Appends before after (replies_with script shortages)
  pub desks : AnswersOver p q (but_bye (answered_with script shortages))

-- a beginning of the replies was written, for some shortages, each at the desk that its command
-- left
pub record AnswersFront (prompt : Bool) (before after : Option (List ℕ)) (script : List ℕ)
    : Type 0 where
  pub shortages : List Shortage
  pub caused : AllCausedOver prompt shortages
  pub given : List Answered
  pub later : List Answered
  pub front : answered_with script shortages ≡ given ++ later
  pub wrote : AppendsFront before after (told_to given)
  pub desks : AnswersAtDesks prompt (but_bye given)
