use Rattle.desk_core.proofs.Names.{BookState, subst}
use Rattle.desk_core.specs.Collected.{IsAccepted}
use Rattle.desk_core.proofs.desk.Desk.collect.Goals as goal

pub returns-in-Row-clause-collected : goal.returns-in-Row-clause-collected
returns-in-Row-clause-collected c =
    let is = c.in-Row.ensures in
    subst (λ (d : BookState). IsAccepted d c.fill.new.self c.args.answer) c.self.view_is
    (record { expected = is.filled.0; value = is.filled.1; wanting = is.filled.2; entered = is.entered })
