use Rattle.desk_core.proofs.Names.{CancelsAny, Cause, EvolveFault, JobResult, Option, Progress, Some, ap, arith, cause_of_answer, job_in, met_by, refl, subst, unwrap_or, ◌≡◌}
use Rattle.std.specs.Option.{option_or}
use Rattle.desk_core.specs.Calls as call
use Rattle.desk_core.specs.declared.collect.Collected.{Collected}
use Rattle.desk_core.specs.declared.collect.Collected.TheVariants.{Released}
use Rattle.desk_core.proofs.Steps.{GoesOn-answered, GoesOn-cancelled, GoesOn-on, tells-answered, tells-released, wanting-collected}
use Rattle.desk_core.proofs.progress.Progress.collect.Goals as goal

first_caused : (before : Option Cause) (told cause met : Cause) → cause ≡ unwrap_or before told → told ≡ met
    → Some cause ≡ option_or before (Some met)
first_caused before told cause met is same = grind arith

same_cause : (cause : Option Cause) (answer : JobResult) (collected : Collected)
    → ((fault : EvolveFault) → collected ≡ Released fault → ⊥)
    → cause ≡ option_or cause (met_by (call.collects answer collected))
same_cause cause answer collected kept = grind arith

pub returns-in-Released-clause-goes : goal.returns-in-Released-clause-goes
returns-in-Released-clause-goes c = λ p q receives.
    let before = c.args.self.now in
    let mid : Progress = record { unsent = before.unsent; cause = Some c.unwrap_or.result } in
    let after : Progress = record { unsent = c.replace.new.dest; cause = Some c.unwrap_or.result } in
    let old = c.args.desk.now in
    let collected = c.collect.new.self in
    let cancels : CancelsAny (job_in mid.unsent) collected c.cancel.new.desk =
    subst (λ u. CancelsAny (job_in u) collected c.cancel.new.desk) c.replace.ensures.value c.cancel.ensures in
    GoesOn-on _ _ _
    (GoesOn-answered old collected p q before mid c.args.answer (Released c.in-Released.fault) receives
    (record {
      is = c.in-Released.ensures.collected;
      fills = c.collect.ensures.fills;
      book = c.collect.ensures.book;
      event = c.in-Released.ensures.event;
    }) refl
    (first_caused before.cause c.of_answer.result c.unwrap_or.result (cause_of_answer c.in-Released.fault)
    c.unwrap_or.ensures c.of_answer.ensures)
    (tells-released old collected p q before mid c.args.answer c.in-Released.fault c.of_answer.result receives
    c.collect.ensures.book c.in-Released.ensures.collected.gave_up c.of_answer.ensures
    (ap (λ cause. Some cause) c.unwrap_or.ensures)))
    (GoesOn-cancelled collected c.cancel.new.desk q mid after cancels (ap job_in c.replace.ensures.after) refl)

pub returns-in_default : goal.returns-in_default
returns-in_default c = record {
  goes = λ p q receives.
      GoesOn-answered c.args.desk.now c.collect.new.self p q c.args.self.now c.args.self.now c.args.answer
      c.collect.result receives
      (record {
        is = c.collect.ensures.collected;
        fills = c.collect.ensures.fills;
        book = c.collect.ensures.book;
        event = c.collect.ensures.event;
      }) refl (same_cause c.args.self.now.cause c.args.answer c.collect.result c.in_default.not-Released)
      (tells-answered c.args.desk.now c.collect.new.self p q c.args.self.now c.args.answer receives
      c.collect.ensures.book);
  same = λ none. refl;
  wanting = λ none.
      wanting-collected c.args.desk.now c.collect.new.self c.args.answer c.collect.result c.in_default.not-Released
      c.collect.ensures.collected;
  none = λ nothing. nothing;
}
