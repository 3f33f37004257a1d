use Rattle.worlds.proofs.Shared.Steps.{arrive-undisturbed}
use Rattle.worlds.proofs.laws.arrival_undisturbed.Goals as goal

pub returns : goal.returns
returns c = arrive-undisturbed
