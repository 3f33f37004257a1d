-- How the program's run ends.
use Rattle.std.specs.Prelude.{◌≡◌, ◌≢◌, ℕ, ◌-◌, ◌^◌, ◌<◌, Bool, false, List, Option, Result, IfSome, MatchResult}
use Rattle.std.specs.Process.{exit_status}
use Rattle.std.specs.declared.sync.ledger.Blank.{Blank}
use Rattle.std.specs.declared.process.ExitCode.{ExitCode}
use Rattle.script_lines.specs.Ahead.{all_ahead}
use Rattle.desk_server.specs.Run.{AnswersAll, AnswersFront, AnswersWhole}
use Rattle.desk_server.specs.declared.server.RunFault.TheVariants.{Read, Write, NoMemory}
use Rattle.desk_words.specs.declared.settings.Options.{Options}
use Rattle.desk_words.specs.declared.words.OptionFault.{OptionFault}
use Rattle.desk_program.specs.declared.devices.Devices.{Devices}
use Rattle.desk_program.specs.declared.ending.Ending.{Ending}
use Rattle.desk_program.specs.declared.ending.Ending.TheVariants.{Done, Failed, NoWorker, Refused}
use Rattle.desk_program.specs.Ending.{EndsBy, status_of}

-- a blank that a ledger of this name and of so many parts, one at least, can be opened of
pub record Opens (blank : Blank) (name parts : ℕ) : Type 0 where
  pub named : blank.name ≡ name
  pub parted : blank.parts ≡ parts
  pub some : 0 < blank.parts

-- ledgers for both devices can be opened of their blanks
pub record AreOpenable {R W : Type 0} (devices : Devices R W)
    (reader reader_parts writer writer_parts : ℕ)
    : Type 0 where
  pub reader_opens : Opens devices.reader_blank reader reader_parts
  pub writer_opens : Opens devices.writer_blank writer writer_parts

-- so many bytes were read, and the commands among them that were read whole were answered
abbrev pub AnswersRead : Bool → Option (List ℕ) → Option (List ℕ) → Option (List ℕ)
    → Option (List ℕ) → Type 0
AnswersRead prompt old new before after =
    (given : ℕ)
    × AnswersWhole prompt (all_ahead old) (record { bytes = new; room = 2 ^ 64 - 1 - given })
    before after

-- what was read and written, by how the answering over a post ended, which is prompt or not
pub record Answers {R W : Type 0} (prompt : Bool) (remaining : R → Option (List ℕ))
    (contents : W → Option (List ℕ)) (r : R) (w : W) (ending : Ending) (s : R) (x : W)
    : Type 0 where
  -- the words were in order
  pub ran : ending ≢ Refused
  -- the replies to the script were written
  pub done : ending ≡ Done → IfSome (remaining r) (AnswersAll prompt (contents w) (contents x))
  -- where a read failed, the commands that were read whole were answered
  pub read : ending ≡ Failed Read
      → AnswersRead prompt (remaining r) (remaining s) (contents w) (contents x)
  -- where a write failed, a beginning of the replies was written
  pub write : ending ≡ Failed Write
      → IfSome (remaining r) (AnswersFront prompt (contents w) (contents x))
  -- where there was no memory to begin with, nothing was read or written
  pub memory : ending ≡ Failed NoMemory → (s ≡ r) × (x ≡ w)
  -- where a worker's thread was refused, neither
  pub worker : ending ≡ NoWorker → (s ≡ r) × (x ≡ w)

-- the exit status is that of an ending: of a run over a pool where the words are in order, else the
-- one that the words come to, with nothing read or written
abbrev pub Starts : {R W : Type 0} → (R → Option (List ℕ)) → (W → Option (List ℕ)) → R → W
    → Result Options OptionFault → ExitCode → R → W → Type 0
Starts remaining contents r w checked status s x =
    (ending : Ending)
    × (exit_status status ≡ status_of ending)
    × MatchResult checked (λ _. Answers false remaining contents r w ending s x)
    (λ fault. EndsBy fault ending × (s ≡ r) × (x ≡ w))
