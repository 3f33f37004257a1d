use Rattle.desk_server.proofs.Names.{NoMemory, TakenOrSame, TakesText, inl, of_edit, refl, refused_text, subst, sym}
use Rattle.desk_server.proofs.Left.{says-bytes}
use Rattle.desk_server.proofs.Replies.{gives-only}
use Rattle.desk_server.proofs.serve.take_kept.Goals as goal

pub returns-in-Some-clause-answer : goal.returns-in-Some-clause-answer
returns-in-Some-clause-answer c =
    subst (λ t. TakesText c.args.format t c.take.result c.args.desk.now c.take.new.desk) (sym c.in-Some.ensures)
    c.take.ensures.answer

pub returns-in-Some-clause-left : goal.returns-in-Some-clause-left
returns-in-Some-clause-left c = λ bytes says.
    subst (λ v. TakenOrSame c.args.format v c.args.desk.now c.take.new.desk)
    (says-bytes c.args.text.now c.in-Some.bytes.now bytes c.in-Some.ensures says) c.take.ensures.left

pub returns-in-None-clause-answer : goal.returns-in-None-clause-answer
returns-in-None-clause-answer c =
    subst (λ t. TakesText c.args.format t c.refused.result c.args.desk.now c.args.desk.now) (sym c.in-None.ensures)
    (gives-only c.args.desk.now.plan c.args.desk.now c.refused.result (refused_text (of_edit NoMemory)) refl
    (c.refused.ensures.text c.args.desk.now) c.refused.ensures.goes_on)

pub returns-in-None-clause-left : goal.returns-in-None-clause-left
returns-in-None-clause-left c = λ bytes says. inl refl
