use Rattle.desk_server.proofs.Names.{Known, has_text, refl}
use Rattle.desk_server.proofs.serve.list.Goals as goal

pub returns-clause-answer : goal.returns-clause-answer
returns-clause-answer c = (Known (has_text c.args.desk.now), λ _. tt, refl)
