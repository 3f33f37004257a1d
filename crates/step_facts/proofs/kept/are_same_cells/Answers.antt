use Rattle.std.proofs.lemmas.Slice.Eq.{slice_eq-Decides}
use Rattle.step_facts.proofs.Cells.{same_cell-decides}
use Rattle.step_facts.proofs.kept.are_same_cells.Goals as goal

pub returns : goal.returns
returns c = slice_eq-Decides same_cell-decides c.args.cells.now c.args.others.now c.eq.result c.eq.ensures
