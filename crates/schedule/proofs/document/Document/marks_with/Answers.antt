use Rattle.schedule.proofs.Names.{Intervention, arith, reach_with}
use Rattle.schedule.proofs.Tallies.{tally-marks}
use Rattle.schedule.proofs.document.Document.marks_with.Goals as goal

pub returns-clause-marks : goal.returns-clause-marks
returns-clause-marks c = grind (
  arith,
  tally-marks (reach_with c.args.self.now c.args.branch c.args.least) c.args.branch
      (λ (i : Intervention). i.acts) c.args.self.now.interventions,
)
