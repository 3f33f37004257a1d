use Rattle.hash_life_laws.proofs.Shared.Places.{what_is_put}
use Rattle.hash_life_laws.proofs.puts_what_stands.Goals as goal

pub returns : goal.returns
returns c = what_is_put
