use Rattle.std.proofs.Common.{false}
use Rattle.desk_program.proofs.Within.{answers_within}
use Rattle.desk_program.proofs.program.answer_hinted.Goals as goal

pub returns : goal.returns
returns g c =
    let ran = c.answer-answered in
    answers_within false g.R.Read.remaining g.W.Write.contents c.new-reader.result c.new-writer.result ran.result.0
    ran.result.1 ran.result.2 c.args.devices.reader c.args.devices.writer c.into_inner.result c.into_inner-2.result
    c.new-reader.ensures c.new-writer.ensures c.into_inner.ensures c.into_inner-2.ensures ran.ensures
