use Rattle.table_lines.proofs.Shared.WrittenTables.{written-read}
use Rattle.table_lines.proofs.laws.written_tables_are_read.Goals as goal

pub returns : goal.returns
returns c = written-read
