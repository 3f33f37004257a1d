-- What is told of lines that are refused.
use Rattle.std.specs.Prelude.{ℕ, List, codes}
use Rattle.desk_script.specs.declared.fault.ScriptFault.{ScriptFault}
use Rattle.desk_script.specs.declared.fault.ScriptFault.TheVariants.{BadCommand, NoEnd}

abbrev pub fault_number : ScriptFault → ℕ
fault_number (BadCommand line) = 80
fault_number (NoEnd line) = 81

abbrev pub fault_name : ScriptFault → List ℕ
fault_name (BadCommand line) = codes "BadCommand"
fault_name (NoEnd line) = codes "NoEnd"

-- the line of the command
abbrev pub fault_line : ScriptFault → ℕ
fault_line (BadCommand line) = line
fault_line (NoEnd line) = line
