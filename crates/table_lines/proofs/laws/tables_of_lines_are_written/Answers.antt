use Rattle.table_lines.proofs.Shared.WrittenSets.{said-written}
use Rattle.table_lines.proofs.laws.tables_of_lines_are_written.Goals as goal

pub returns : goal.returns
returns c = said-written
