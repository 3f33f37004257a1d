use Rattle.table_lines.proofs.Shared.WrittenFiles.{written-file}
use Rattle.table_lines.proofs.laws.written_is_its_file.Goals as goal

pub returns : goal.returns
returns c = written-file
