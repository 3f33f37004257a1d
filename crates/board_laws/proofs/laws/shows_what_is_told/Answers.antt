use Rattle.board_laws.proofs.Told.{shows_told}
use Rattle.board_laws.proofs.laws.shows_what_is_told.Goals as goal

pub returns : goal.returns
returns c = shows_told
