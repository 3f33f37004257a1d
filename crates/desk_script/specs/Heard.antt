-- What was heard of a script: the next thing that is asked, if there is one.
use Rattle.std.specs.Prelude.{◌≡◌, ℕ, List, [], ◌∷◌, ◌++◌, Bool, true, Option, None, Some, ⊤}
use Rattle.std.specs.Io.KnownBytes.{IsAtEnd}
use Rattle.script_lines.specs.Ahead.{Ahead, TakesBytes, LineReading, IsDrawn}
use Rattle.script_lines.specs.Input.{FailsOrFull}
use Rattle.text_lines.specs.Lines.{End, Broken, lines_until}
use Rattle.script_lines.specs.Script.{MayFollow}
use Rattle.script_lines.specs.KeptText.{IsText}
use Rattle.desk_script.specs.Asks.{Ask, Obey, Take, Refuse, asks, asked_by, LinePlace, Between}
use Rattle.desk_script.specs.declared.command.Command.{Command}
use Rattle.desk_script.specs.declared.request.Request.{Request}
use Rattle.desk_script.specs.declared.request.Request.TheVariants as request
use Rattle.desk_script.specs.declared.command.Command.TheVariants as command
use Rattle.desk_script.specs.declared.fault.ScriptFault.TheVariants.{BadCommand}

-- memory can run out for it: for an edit, for a bookmark that is shown, for a document as a script,
-- for what a text means, and for a line that has no command
abbrev pub CanLackMemory : Ask → Type 0
CanLackMemory (Obey (command.Edit edit)) = ⊤
CanLackMemory (Obey (command.Show id)) = ⊤
CanLackMemory (Obey (command.Peek id)) = ⊤
CanLackMemory (Obey command.Script) = ⊤
CanLackMemory (Take format text) = ⊤
CanLackMemory (Refuse (BadCommand line)) = ⊤
CanLackMemory _ = ⊥

-- whatever line has this command, it can be out of memory
abbrev pub LineCanLackMemory : Option Command → Type 0
LineCanLackMemory command = (n : ℕ) → CanLackMemory (asked_by n command)

-- what a request asks: this, or something that is out of memory
abbrev pub IsReadAs : Request → Ask → Type 0
IsReadAs (request.Obey command) ask = ask ≡ Obey command
IsReadAs (request.Take format text) ask =
    (bytes : List ℕ) × (ask ≡ Take format bytes) × IsText text bytes
IsReadAs (request.Refuse fault) ask = ask ≡ Refuse fault
IsReadAs request.NoMemory ask = CanLackMemory ask

-- nothing was asked, or what the request asks
abbrev pub AsksIfAny : Option Request → List Ask → Type 0
AsksIfAny None asked = asked ≡ []
AsksIfAny (Some r) asked = (ask : Ask) × (asked ≡ ask ∷ []) × IsReadAs r ask

-- bytes were taken that ask for `asked` from this place on, whatever may follow them; they begin on
-- line n, and what follows begins on line m
pub record Hears (old new : Ahead) (place : LinePlace) (heard : Option Request) (last : Bool)
    (n m : ℕ) : Type 0 where
  pub bytes : List ℕ
  pub asked : List Ask
  pub taken : TakesBytes old new bytes
  pub law : (stop : End) (more : List ℕ) → MayFollow last stop more
      → asks stop place n (lines_until stop (bytes ++ more))
      ≡ asked ++ asks stop Between m (lines_until stop more)
  pub is : AsksIfAny heard asked
  pub at_end : last ≡ true → IsAtEnd new.bytes

-- the reading broke off before anything more was asked
pub record BreaksOff (old new : Ahead) (place : LinePlace) (n : ℕ) : Type 0 where
  pub bytes : List ℕ
  pub taken : TakesBytes old new bytes
  pub law : asks Broken place n (lines_until Broken bytes) ≡ []

-- a read failed, or 2^64 - 1 bytes came, and all that was read was taken
abbrev pub ReadFails : {R : Type 0} → (R → Option (List ℕ)) → LineReading R → LineReading R → Type 0
ReadFails remaining old new =
    FailsOrFull old.failures new.failures new.given × IsDrawn remaining new
