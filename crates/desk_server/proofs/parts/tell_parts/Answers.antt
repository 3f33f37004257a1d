use Rattle.desk_server.proofs.Names.{arith, length, part_text, wrote_err, ◌<◌, ◌∙◌}
use Rattle.desk_server.proofs.Told.{parts_more, parts_broken}
use Rattle.desk_server.proofs.parts.tell_parts.Goals as goal

pub returns-in_err-tell_part-clause-bytes : goal.returns-in_err-tell_part-clause-bytes
returns-in_err-tell_part-clause-bytes g c =
    let low : c.loop-part.part-index < length c.args.parts.now = omega arith in
    wrote_err _ _ c.from_residual.result _ c.from_residual.ensures.0
    (parts_broken part_text _ _ _ c.args.parts.now c.loop-part.part-index _ low c.loop-part.invariant.told
    c.in_err-tell_part.ensures.bytes)

pub loop-part-preserved : goal.loop-part-preserved
loop-part-preserved g c =
    let low : c.loop-part.part-index < length c.args.parts.now = omega arith in
    record {
      told = parts_more part_text _ _ _ c.args.parts.now c.loop-part.part-index _ low c.loop-part.invariant.told
          c.in_ok-tell_part.ensures.bytes;
      worked = c.in_ok-tell_part.ensures.worked ∙ c.loop-part.invariant.worked;
    }
