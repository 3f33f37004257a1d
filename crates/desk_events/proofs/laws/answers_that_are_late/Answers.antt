use Rattle.desk_events.proofs.Example.{answer_of_old, kept_answer, late_answer}
use Rattle.desk_events.proofs.laws.answers_that_are_late.Goals as goal

pub returns-clause-late : goal.returns-clause-late
returns-clause-late c = late_answer

pub returns-clause-kept : goal.returns-clause-kept
returns-clause-kept c = kept_answer

pub returns-clause-old : goal.returns-clause-old
returns-clause-old c = answer_of_old
