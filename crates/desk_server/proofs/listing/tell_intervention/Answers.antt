use Rattle.desk_server.proofs.Names.{Wrote, rules, subst}
use Rattle.desk_server.proofs.Lines.{every-line, once-line}
use Rattle.desk_server.proofs.listing.tell_intervention.Goals as goal

pub returns-in-Once-clause-bytes : goal.returns-in-Once-clause-bytes
returns-in-Once-clause-bytes g c =
    subst (Wrote c.args.writer.now.contents c.tell_parts.new.writer.contents c.tell_parts.result)
    (once-line c.args.intervention.now c.in-Once.generation _ c.in-Once.is (search rules)) c.tell_parts.ensures.bytes

pub returns-in-Every-clause-bytes : goal.returns-in-Every-clause-bytes
returns-in-Every-clause-bytes g c =
    subst (Wrote c.args.writer.now.contents c.tell_parts-in-Every.new.writer.contents c.tell_parts-in-Every.result)
    (every-line c.args.intervention.now c.in-Every.first c.in-Every.every c.in-Every.last _ c.in-Every.is (search rules))
    c.tell_parts-in-Every.ensures.bytes
