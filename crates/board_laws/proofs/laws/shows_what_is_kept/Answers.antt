use Rattle.board_laws.proofs.Same.{shows_kept}
use Rattle.board_laws.proofs.laws.shows_what_is_kept.Goals as goal

pub returns : goal.returns
returns c = shows_kept
