use Rattle.macrocell_lines.proofs.Shared.WrittenTexts.{written-says}
use Rattle.macrocell_lines.proofs.laws.written_says_the_same.Goals as goal

pub returns : goal.returns
returns c = written-says
