use Rattle.schedule.proofs.Names.{Intervention, arith, if◌then◌else◌, reach, ◌==◌}
use Rattle.schedule.proofs.Tallies.{tally-marks}
use Rattle.schedule.proofs.document.Document.marks_changed.Goals as goal

pub returns : goal.returns
returns c = grind (
  arith,
  tally-marks (reach c.args.self.now) 0
      (λ (i : Intervention). if i.id == c.args.id then c.args.acts else i.acts) c.args.self.now.interventions,
)
