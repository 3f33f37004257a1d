use Rattle.desk_program.proofs.Answered.{answers_of}
use Rattle.desk_program.proofs.devices.answer_over.Goals as goal

pub returns : goal.returns
returns g c =
    let ran = c.run_shown-answered in
    answers_of
    (g.P.Post.view c.args.post.now).is_prompt g.R.Read.remaining g.W.Write.contents c.args.devices.reader
    c.args.devices.writer ran.result c.of_run.result c.into_inner.result c.into_inner-2.result c.new-reader.result
    ran.new.reader c.new-writer.result ran.new.writer
    c.of_run.ensures c.new-reader.ensures c.new-writer.ensures c.into_inner.ensures c.into_inner-2.ensures.inner
    c.into_inner-2.ensures.contents ran.ensures.done ran.ensures.read ran.ensures.write ran.ensures.no_memory
