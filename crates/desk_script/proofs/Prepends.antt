-- Cells that stand before others.
use Rattle.desk_script.proofs.Names.{CellSet, List, Option, Some, [], append_assoc, arith, before, option_map, ◌++◌, ◌∷◌, ◌≡◌}

pub prepends_one : (xs : List CellSet) (c : CellSet) (o : Option (List CellSet))
    → option_map (λ more. xs ++ more) (before (Some c) o) ≡ option_map (λ more. (xs ++ c ∷ []) ++ more) o
prepends_one xs c o = grind (arith, append_assoc)
