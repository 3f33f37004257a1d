use Rattle.square_table.proofs.Shared.Numbers.{numbers_tell}
use Rattle.square_table.proofs.laws.numbers_tell_squares.Goals as goal

pub returns : goal.returns
returns c = numbers_tell
