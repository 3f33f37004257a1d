use Rattle.desk_script.proofs.Names.{cells_said, length, option_map, words, ◌++◌, ◌≡◌}
use Rattle.desk_script.proofs.cells.read_cells.Given as goal

abbrev pub invariant-loop-cells : goal.invariant-loop-cells
invariant-loop-cells l = cells_said (words l.fn.bytes) ≡ option_map (λ more. l.cells.items ++ more)
    (cells_said (words l.rest))

abbrev pub decreases-loop-cells : goal.decreases-loop-cells
decreases-loop-cells l = length l.rest
