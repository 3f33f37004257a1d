use Rattle.desk_core.proofs.Names.{ap, inl, length, length-append, refl, ◌∙◌}
use Rattle.desk_core.proofs.Looks.{looked_at}
use Rattle.desk_core.proofs.Steps.{GoesOn-idle, Idles-ended, Idles-nothing}
use Rattle.desk_core.proofs.progress.Progress.receive.Goals as goal

pub returns-in-Nothing-clause-goes : goal.returns-in-Nothing-clause-goes
returns-in-Nothing-clause-goes g c = GoesOn-idle _ _ _ _ _ (Idles-nothing _ _ c.in-Nothing.ensures) refl refl

pub returns-in-Ended-clause-goes : goal.returns-in-Ended-clause-goes
returns-in-Ended-clause-goes g c = GoesOn-idle _ _ _ _ _ (Idles-ended _ _ c.in-Ended.ensures) refl refl

pub returns-in-Answer-clause-looked : goal.returns-in-Answer-clause-looked
returns-in-Answer-clause-looked g c = inl (
  ap (λ xs. length xs) c.in-Answer.ensures.answers ∙ length-append (g.P.Post.view c.args.post.now).answers _,
  looked_at g.O.Onlooker.sees c.look.result c.args.onlooker.now c.look.new.self c.collect.new.desk c.look.ensures.seen
      c.look.ensures.unseen,
)
