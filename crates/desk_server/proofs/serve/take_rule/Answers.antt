use Rattle.desk_server.proofs.Names.{Changed, GivesAnswerBy, MayWant, ReplaceRule, RevisedOrSame, Unread, edited, id_word, inl, of_rule, refl, rules, subst, true}
use Rattle.rule_file.specs.declared.fault.RuleFault.TheVariants.{NoMemory}
use Rattle.rule_tree.specs.Rule.{rule_of}
use Rattle.desk_script.specs.declared.format.Format.TheVariants.{Rule}
use Rattle.desk_server.proofs.Left.{taken-or-same}
use Rattle.desk_server.proofs.Replies.{read-edited, rule-may, rule-taken, takes-read, takes-refused, wants-where}
use Rattle.desk_server.proofs.serve.take_rule.Goals as goal

pub returns-in-Err-clause-answer : goal.returns-in-Err-clause-answer
returns-in-Err-clause-answer c =
    takes-refused Rule c.args.text.now c.args.desk.now c.args.desk.now c.refused.result of_rule _ c.in-Err.fault NoMemory
    (rule_of c.args.text.now) refl refl refl c.in-Err.ensures.rule
    (wants-where c.read.result c.in-Err.fault NoMemory (MayWant Rule c.args.text.now) c.in-Err.is c.read.ensures.no_memory)
    c.refused.ensures.text c.refused.ensures.goes_on

pub returns-in-Err-clause-left : goal.returns-in-Err-clause-left
returns-in-Err-clause-left c = inl refl

pub returns-in-Ok-new-clause-answer : goal.returns-in-Ok-new-clause-answer
returns-in-Ok-new-clause-answer c =
    let p = c.args.desk.now.plan in
    let asked = ReplaceRule c.in-Ok.rule in
    let number = λ (d : Changed). d.edited.id in
    takes-read Rule c.args.text.now c.args.desk.now c.edit.new.desk c.edit.result asked (id_word asked) number
    (rule-may c.args.text.now c.in-Ok.rule c.in-Ok.ensures.rule)
    (rule-taken p c.args.text.now c.in-Ok.rule c.in-Ok.ensures.rule)
    (read-edited asked c.args.desk.now c.edit.new.desk c.edit.result (id_word asked) number
    (subst (λ r. GivesAnswerBy true (λ short. edited short p (ReplaceRule r)) c.edit.result c.edit.new.desk)
    c.in-Ok-new.ensures.ok c.edit.ensures.answer))

pub returns-in-Ok-new-clause-left : goal.returns-in-Ok-new-clause-left
returns-in-Ok-new-clause-left c =
    taken-or-same Rule c.args.text.now (ReplaceRule c.in-Ok.rule) c.args.desk.now c.edit.new.desk
    (c.in-Ok.rule, c.in-Ok.ensures.rule, refl)
    (subst (λ r. RevisedOrSame (ReplaceRule r) c.args.desk.now c.edit.new.desk) c.in-Ok-new.ensures.ok c.edit.ensures.left)

pub returns-clause-answer : goal.returns-clause-answer
returns-clause-answer c =
    (Unread, rule-may c.args.text.now c.in-Ok.rule c.in-Ok.ensures.rule, search rules)

pub returns-clause-left : goal.returns-clause-left
returns-clause-left c = inl refl
