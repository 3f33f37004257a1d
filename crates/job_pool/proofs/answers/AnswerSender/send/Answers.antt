use Rattle.job_pool.proofs.Names.{IsAnswerOf, IsOwnAnswer, Option, Terms, subst, sym}
use Rattle.job_pool.proofs.Homes.{gives}
use Rattle.job_pool.proofs.answers.AnswerSender.send.Goals as goal

pub send_as-sent-requires-clause-rule : goal.send_as-sent-requires-clause-rule
send_as-sent-requires-clause-rule g c =
    let own = subst (λ (m : Terms). IsOwnAnswer m.table m.limit c.args.answer) (sym c.self.view_is) c.requires in
    (gives _ _ _ _ (subst (λ (t : Option Terms). IsAnswerOf t c.args.answer) (sym c.self.invariant.1) own), λ _ _ _ _. tt)
