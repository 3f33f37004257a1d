use Rattle.table_lines.proofs.Shared.SaidTables.{lines-read}
use Rattle.table_lines.proofs.laws.tables_of_lines_are_read.Goals as goal

pub returns : goal.returns
returns c = lines-read
