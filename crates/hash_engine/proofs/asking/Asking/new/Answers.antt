use Rattle.hash_engine.proofs.Neighbourhoods.{AreAnswers-none}
use Rattle.hash_engine.proofs.asking.Asking.new.Goals as goal

pub invariant_of-result : goal.invariant_of-result
invariant_of-result g c = record { answers = AreAnswers-none _ 512 }
