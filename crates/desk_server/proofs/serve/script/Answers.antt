use Rattle.desk_server.proofs.Names.{Memory, NoMemory, NoShortage, ap, of_edit, only, refl, refused_text, scripted_text, sym, ◌∙◌}
use Rattle.desk_script.specs.Scripted.{script_text}
use Rattle.desk_server.proofs.Replies.{gives-only}
use Rattle.desk_server.proofs.serve.script.Goals as goal

pub returns-in-Ok-clause-answer : goal.returns-in-Ok-clause-answer
returns-in-Ok-clause-answer c = (
  NoShortage,
  λ _. tt,
  ap (λ script. only c.args.desk.now.plan (scripted_text script))
      (sym (c.in-Ok.ensures ∙ ap (script_text c.args.rule.now) c.document.ensures)),
)

pub returns-in-Err-clause-answer : goal.returns-in-Err-clause-answer
returns-in-Err-clause-answer c = (
  Memory,
  λ _. tt,
  gives-only c.args.desk.now.plan c.args.desk.now c.refused.result (refused_text (of_edit NoMemory)) refl
      (c.refused.ensures.text c.args.desk.now) c.refused.ensures.goes_on,
)
