use Rattle.desk_script.proofs.Names.{ap, cells_said, option_map, sym, words, ◌++◌, ◌∙◌}
use Rattle.desk_script.proofs.Prepends.{prepends_one}
use Rattle.desk_script.proofs.cells.read_cells.Goals as goal

pub loop-cells-preserved : goal.loop-cells-preserved
loop-cells-preserved c =
    c.loop-cells.invariant
    ∙ ap (option_map (λ more. c.loop-cells.cells.items ++ more)) c.in-Cell.ensures.0
    ∙ prepends_one c.loop-cells.cells.items c.in-Cell.cell (cells_said (words c.in-Cell.behind.now))
    ∙ ap (λ v. option_map (λ more. v ++ more) (cells_said (words c.in-Cell.behind.now)))
    (sym c.in_ok-push-in-Cell.ensures.items)
