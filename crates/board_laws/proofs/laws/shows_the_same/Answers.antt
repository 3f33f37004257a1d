use Rattle.board_laws.proofs.Same.{shows_the_same}
use Rattle.board_laws.proofs.laws.shows_the_same.Goals as goal

pub returns : goal.returns
returns c = shows_the_same
