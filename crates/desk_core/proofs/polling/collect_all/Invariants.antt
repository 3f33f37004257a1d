use Rattle.desk_core.proofs.Names.{HasCome, Nothing, given_of, length, stage, true, ◌+◌, ◌≡◌}
use Rattle.desk_core.proofs.Polls.{HasWorked}
use Rattle.desk_core.proofs.polling.collect_all.Given as goal

abbrev pub invariant-loop : goal.invariant-loop
invariant-loop g l = record {
  comes : HasCome l.initial.desk (g.P.Post.view l.initial.post)
      (stage l.desk (g.P.Post.view l.post) l.progress);
  none : l.progress.unsent ≡ Nothing;
  given : given_of l.desk ≡ given_of l.initial.desk;
  asked : (g.P.Post.view l.post).asked ≡ (g.P.Post.view l.initial.post).asked + l.counter;
  many : length (g.P.Post.view l.post).answers ≡ length (g.P.Post.view l.initial.post).answers + l.counter;
  worked : (g.P.Post.view l.initial.post).is_prompt ≡ true
      → HasWorked (g.P.Post.view l.initial.post) (g.P.Post.view l.post);
}
