use Rattle.desk_server.proofs.Names.{MayWant, ReplaceStart, Some, of_pattern, codes, inl, refl}
use Rattle.multistate_rle.specs.Pattern.{pattern_of}
use Rattle.multistate_rle.specs.declared.fault.RleFault.TheVariants.{NoMemory}
use Rattle.desk_script.specs.declared.format.Format.TheVariants.{Rle}
use Rattle.desk_server.proofs.Left.{taken-or-same}
use Rattle.desk_server.proofs.Replies.{is-read, rle-taken, takes-read, takes-refused, wants-where}
use Rattle.desk_server.proofs.serve.take_rle.Goals as goal

pub returns-in-Err-clause-answer : goal.returns-in-Err-clause-answer
returns-in-Err-clause-answer c =
    takes-refused Rle c.args.text.now c.args.desk.now c.args.desk.now c.refused.result of_pattern _ c.in-Err.fault NoMemory
    (pattern_of c.args.text.now) refl refl refl c.in-Err.ensures.pattern
    (wants-where c.read_rle.result c.in-Err.fault NoMemory (MayWant Rle c.args.text.now) c.in-Err.is c.read_rle.ensures.no_memory)
    c.refused.ensures.text c.refused.ensures.goes_on

pub returns-in-Err-clause-left : goal.returns-in-Err-clause-left
returns-in-Err-clause-left c = inl refl

pub returns-in-Ok-clause-answer : goal.returns-in-Ok-clause-answer
returns-in-Ok-clause-answer c =
    let found = c.in-Ok.pattern in
    takes-read Rle c.args.text.now c.args.desk.now c.take_start.new.desk c.take_start.result (ReplaceStart found.plane)
    (codes " gen ") (λ _. Some found.generation) (inl (is-read (pattern_of c.args.text.now) found c.in-Ok.ensures.pattern))
    (rle-taken c.args.desk.now.plan c.args.text.now found c.in-Ok.ensures.pattern) c.take_start.ensures.answer

pub returns-in-Ok-clause-left : goal.returns-in-Ok-clause-left
returns-in-Ok-clause-left c =
    taken-or-same Rle c.args.text.now (ReplaceStart c.in-Ok.pattern.plane) c.args.desk.now c.take_start.new.desk
    (c.in-Ok.pattern, c.in-Ok.ensures.pattern, refl) c.take_start.ensures.left
