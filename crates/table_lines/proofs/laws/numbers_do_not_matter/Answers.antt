use Rattle.table_lines.proofs.Shared.Renumbered.{lines_of-renumbered}
use Rattle.table_lines.proofs.laws.numbers_do_not_matter.Goals as goal

pub returns : goal.returns
returns c = lines_of-renumbered
