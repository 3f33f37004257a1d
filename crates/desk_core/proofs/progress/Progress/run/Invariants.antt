use Rattle.desk_core.proofs.Names.{GivesAtMost, HasCome, HoldsAllOut, LooksOn, None, rows_of, stage, turns_from, ◌*◌, ◌+◌, ◌≡◌, ◌≤◌}
use Rattle.desk_core.proofs.progress.Progress.run.Given as goal

abbrev pub invariant-loop : goal.invariant-loop
invariant-loop g l = record {
  comes : HasCome l.initial.desk (g.P.Post.view l.initial.post)
      (stage l.desk (g.P.Post.view l.post) l.progress);
  given : GivesAtMost l.counter l.initial.desk l.desk;
  asked : (g.P.Post.view l.post).asked ≡ (g.P.Post.view l.initial.post).asked + l.counter;
  turns : HoldsAllOut l.initial.desk (g.P.Post.view l.initial.post)
      → 4 * rows_of l.initial.desk ≤ l.turns → l.progress.cause ≡ None
      → turns_from l.desk l.progress.unsent (g.P.Post.view l.post).held + l.counter ≤ l.turns;
  looked : LooksOn {O = g.row.O.Denot} g.O.Onlooker.sees (g.P.Post.view l.fn.post) (g.P.Post.view l.post) l.fn.desk
      l.fn.onlooker l.onlooker;
}
