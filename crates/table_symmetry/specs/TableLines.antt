-- What the lines of a table mean: the table, or the first fault that they have.
use Rattle.std.specs.Prelude.{nat_lt, if◌then◌else◌, List, length, Result, Ok, Err}
use Rattle.basics.specs.Results.{◌>>=◌}
use Rattle.rule_file.specs.declared.fault.RuleFault.{RuleFault}
use Rattle.rule_file.specs.declared.fault.RuleFault.TheVariants.{TooManyTransitions, NotQuiescent}
use Rattle.rule_file.specs.RuleFile.{NumberedLine}
use Rattle.table_lines.specs.Lines.{lines_of}
pub use Rattle.table_lines.specs.Lines.{head_in}
use Rattle.table_symmetry.specs.Expanded.{expanded, transition_limit}
use Rattle.table_symmetry.specs.NextState.{is_quiescent}
use Rattle.table_symmetry.specs.Table.{Table}

-- a table of at most 1,000,000 expanded transitions that is quiescent
abbrev pub within_limits : Table → Result Table RuleFault
within_limits table =
    if nat_lt transition_limit (length (expanded table)) then Err TooManyTransitions else
    (if is_quiescent table then Ok table else Err NotQuiescent)

-- what the lines of a table mean
abbrev pub table_of : List NumberedLine → Result Table RuleFault
table_of lines = lines_of lines >>= within_limits
