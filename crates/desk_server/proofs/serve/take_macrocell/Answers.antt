use Rattle.desk_server.proofs.Names.{MayWant, ReplaceStart, Some, of_macrocell, codes, inl, inr, refl}
use Rattle.multistate_macrocell.specs.Pattern.{pattern_of}
use Rattle.macrocell_lines.specs.declared.fault.McFault.TheVariants.{NoMemory}
use Rattle.desk_script.specs.declared.format.Format.TheVariants.{Macrocell}
use Rattle.desk_server.proofs.Left.{taken-or-same}
use Rattle.desk_server.proofs.Replies.{is-read, macrocell-taken, takes-read, takes-refused, wants-where}
use Rattle.desk_server.proofs.serve.take_macrocell.Goals as goal

pub returns-in-Err-clause-answer : goal.returns-in-Err-clause-answer
returns-in-Err-clause-answer c =
    takes-refused Macrocell c.args.text.now c.args.desk.now c.args.desk.now c.refused.result of_macrocell _ c.in-Err.fault NoMemory
    (pattern_of c.args.text.now) refl refl refl c.in-Err.ensures.pattern
    (wants-where c.read_mc.result c.in-Err.fault NoMemory (MayWant Macrocell c.args.text.now) c.in-Err.is c.read_mc.ensures.no_memory)
    c.refused.ensures.text c.refused.ensures.goes_on

pub returns-in-Err-clause-left : goal.returns-in-Err-clause-left
returns-in-Err-clause-left c = inl refl

pub returns-in-Ok-clause-answer : goal.returns-in-Ok-clause-answer
returns-in-Ok-clause-answer c =
    let found = c.in-Ok.pattern in
    takes-read Macrocell c.args.text.now c.args.desk.now c.take_start.new.desk c.take_start.result (ReplaceStart found.plane)
    (codes " gen ") (λ _. Some found.generation) (inr (is-read (pattern_of c.args.text.now) found c.in-Ok.ensures.pattern))
    (macrocell-taken c.args.desk.now.plan c.args.text.now found c.in-Ok.ensures.pattern) c.take_start.ensures.answer

pub returns-in-Ok-clause-left : goal.returns-in-Ok-clause-left
returns-in-Ok-clause-left c =
    taken-or-same Macrocell c.args.text.now (ReplaceStart c.in-Ok.pattern.plane) c.args.desk.now c.take_start.new.desk
    (c.in-Ok.pattern, c.in-Ok.ensures.pattern, refl) c.take_start.ensures.left
