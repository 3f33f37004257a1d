-- What the lines of a table say: the table, or the first fault that they have.
use Rattle.std.specs.Prelude.{List, Result, Ok}
use Rattle.table_lines.specs.Table.{Table, headed}
use Rattle.rule_file.specs.declared.fault.RuleFault.{RuleFault}
use Rattle.basics.specs.Results.{◌>>=◌}
use Rattle.rule_file.specs.RuleFile.{NumberedLine}
use Rattle.table_lines.specs.declared.descriptors.Head.{Head}
use Rattle.table_lines.specs.Descriptors.{undescribed, head_from}
use Rattle.table_lines.specs.Transitions.{transitions_of}
use Rattle.table_lines.specs.Variables.{no_variables}

-- the head of a table, and the lines after it
abbrev pub head_in : List NumberedLine → Result (Head × List NumberedLine) RuleFault
head_in lines = head_from undescribed lines

-- the table that the lines say, whatever its limits
abbrev pub lines_of : List NumberedLine → Result Table RuleFault
lines_of lines = do
  found ← head_in lines
  transitions ← transitions_of found.0 no_variables found.1
  Ok (headed found.0 transitions)
