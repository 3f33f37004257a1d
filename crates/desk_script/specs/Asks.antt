-- What the lines of a script ask.
use Rattle.std.specs.Prelude.{ℕ, ◌+◌, List, [], ◌∷◌, ◌++◌, Option, None, Some, if◌then◌else◌}
use Rattle.text_lines.specs.Lines.{End, Ended, Broken, Line}
use Rattle.script_lines.specs.ScriptLine.{is_passed_over, is_end}
use Rattle.desk_script.specs.Command.{command_of, format_of}
use Rattle.desk_script.specs.declared.fault.ScriptFault.TheVariants.{BadCommand, NoEnd}
use Rattle.desk_script.specs.declared.format.Format.{Format}
use Rattle.desk_script.specs.declared.command.Command.{Command}
use Rattle.desk_script.specs.declared.fault.ScriptFault.{ScriptFault}

-- what is asked of the desk: a command, what a text of a format means, or to refuse what lines say
pub data Ask : Type 0 where
  Obey : Command → Ask
  Take : Format → List ℕ → Ask
  Refuse : ScriptFault → Ask

-- where a line stands: between commands, or in the text of a format, of the command on line `at`
pub data LinePlace : Type 0 where
  Between : LinePlace
  InText : ℕ → Format → List ℕ → LinePlace

-- a text without its end is refused, but not where the reading broke off
abbrev pub without_end : End → ℕ → List Ask
without_end Ended at = Refuse (NoEnd at) ∷ []
without_end Broken at = []

-- what line n asks by its command, if it has one
abbrev pub asked_by : ℕ → Option Command → Ask
asked_by n (Some command) = Obey command
asked_by n None = Refuse (BadCommand n)

-- what line n asks that says this, if no text follows it
abbrev pub asked_at : ℕ → List ℕ → Option Format → List Ask
asked_at n says None = asked_by n (command_of says) ∷ []
asked_at n says (Some format) = []

-- where the line behind it stands
abbrev pub place_behind : ℕ → Option Format → LinePlace
place_behind n None = Between
place_behind n (Some format) = InText n format []

-- what the lines ask from line n on
abbrev pub asks : End → LinePlace → ℕ → List Line → List Ask
asks stop Between n [] = []
asks stop (InText at format text) n [] = without_end stop at
asks stop Between n (line ∷ rest) =
    if is_passed_over line.says then asks stop Between (n + 1) rest
    else asked_at n line.says (format_of line.says)
    ++ asks stop (place_behind n (format_of line.says)) (n + 1) rest
asks stop (InText at format text) n (line ∷ rest) =
    if is_end line.says then Take format text ∷ asks stop Between (n + 1) rest
    else asks stop (InText at format (text ++ line.raw)) (n + 1) rest
