use Rattle.std.proofs.Common.{List, ap, arith, sym, ℕ, ◌∙◌}
use Rattle.hash_engine.proofs.Neighbourhoods.{AreAnswers-more}
use Rattle.hash_engine.proofs.asking.AskingAsk.ask.Goals as goal

pub invariant_of-self-2 : goal.invariant_of-self-2
invariant_of-self-2 g c =
    let meaning : List ℕ → ℕ = g.R.Next.meaning c.args.self.now.rule.now in
    let is = c.next-answer.ensures ∙ ap meaning (sym c.in-Some.ensures.states) in
    record { answers = AreAnswers-more meaning _ c.in-Some.number c.next-answer.result (omega (arith, c.in-Some.ensures.few)) c.args.self.now.answers is }
