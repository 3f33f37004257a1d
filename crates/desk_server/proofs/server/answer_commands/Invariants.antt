use Rattle.desk_server.proofs.Names.{Answers, CarriesOn, NotesEach, Works, moment, opening_session, session, ◌+◌}
use Rattle.desk_server.proofs.server.answer_commands.Given as goal

abbrev pub invariant-script : goal.invariant-script
invariant-script g l = record {
  answered : Answers (NotesEach {V = g.row.O.Denot} g.O.Onlooker.sees
      (moment 0 (g.P.Post.view l.fn.post) l.fn.desk l.fn.onlooker)
      (moment l.missed (g.P.Post.view l.post) l.desk l.onlooker))
      (g.P.Post.view l.fn.post).is_prompt l.fn.reader.ahead l.reader.ahead l.fn.writer.contents l.writer.contents
      opening_session (session l.desk l.rule) 1 (l.reader.lines + 1);
  post : CarriesOn (g.P.Post.view l.fn.post) (g.P.Post.view l.post) l.desk;
  works : Works {R = g.row.R.Denot} {W = g.row.W.Denot} l.fn.reader l.reader l.fn.writer l.writer;
}

abbrev pub decreases-script : goal.decreases-script
decreases-script g l = l.reader.ahead.room
