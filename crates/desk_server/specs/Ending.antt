-- How a run ends for its reader and its writer.
use Rattle.std.specs.Prelude.{◌≡◌, ℕ, ◌+◌, Bool, List, Option, IfSome, OnOk, Result, true}
use Rattle.script_lines.specs.Ahead.{LineReading}
use Rattle.script_lines.specs.Counted.{CountedWriting}
use Rattle.desk_script.specs.Heard.{ReadFails}
use Rattle.revision_jobs.specs.Posted.{PostView}
use Rattle.desk_server.specs.Run.{AnswersAll, AnswersAllOver, AnswersWhole, AnswersFront}

-- no failure was counted, and what was written was handed on
pub record Works {R W : Type 0} (r s : LineReading R) (w x : CountedWriting W) : Type 0 where
  pub reads : s.failures ≡ r.failures
  pub writes : x.failures ≡ w.failures
  pub flushed : w.flushed ≡ true → x.flushed ≡ true

-- the script was answered to its end, and no failure was counted
pub record Completes {R W : Type 0} (prompt : Bool) (r s : LineReading R) (w x : CountedWriting W)
    : Type 0 where
  pub answered : IfSome r.ahead.bytes (AnswersAll prompt w.contents x.contents)
  pub works : Works r s w x

-- a script that was answered to its end was so over this post, which became that one
abbrev pub CompletesOver
    : {R W E : Type 0} → Result (Unit {0}) E → PostView → PostView → LineReading R
    → CountedWriting W → CountedWriting W → Type 0
CompletesOver result p q r w x =
    OnOk result (IfSome r.ahead.bytes (AnswersAllOver p q w.contents x.contents))

-- the reading failed or never ends: the commands that were read whole were answered, and what was
-- written was handed on
pub record ReadStops {R W : Type 0} (remaining : R → Option (List ℕ)) (prompt : Bool)
    (r s : LineReading R) (w x : CountedWriting W)
    : Type 0 where
  pub answered : AnswersWhole prompt r.ahead s.ahead w.contents x.contents
  pub flushed : w.flushed ≡ true → x.flushed ≡ true
  pub fails : ReadFails remaining r s

-- the writing stopped within the replies to the script
pub record WriteStops {R W : Type 0} (prompt : Bool) (r : LineReading R) (w x : CountedWriting W)
    : Type 0 where
  pub answered : IfSome r.ahead.bytes (AnswersFront prompt w.contents x.contents)
  pub fails : x.failures ≡ w.failures + 1
