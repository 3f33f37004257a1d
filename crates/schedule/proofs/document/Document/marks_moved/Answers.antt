use Rattle.schedule.proofs.Names.{Intervention, arith, reach, with_moved_bookmark}
use Rattle.schedule.proofs.Tallies.{tally-marks}
use Rattle.schedule.proofs.document.Document.marks_moved.Goals as goal

pub returns : goal.returns
returns c =
    grind (
      arith,
      tally-marks (reach (with_moved_bookmark c.args.self.now c.args.id c.args.generation).plan) 0
          (λ (i : Intervention). i.acts) c.args.self.now.interventions,
    )
