use Rattle.worlds.specs.World.{same_world}
use Rattle.worlds.proofs.laws.same_states_same_world.Goals as goal

pub returns : goal.returns
returns c = same_world
