use Rattle.table_lines.proofs.Names.{bytes_eq, drop, find, name_of_symmetry, symmetries_of, ◌≡◌}
use Rattle.table_lines.proofs.symmetry.Symmetry.named.Given as goal

abbrev pub invariant-loop-symmetry : goal.invariant-loop-symmetry
invariant-loop-symmetry l = find (λ s. bytes_eq l.fn.name (name_of_symmetry s)) (drop l.symmetry-index l.symmetry-items) ≡ find (λ s. bytes_eq l.fn.name (name_of_symmetry s)) (symmetries_of l.fn.neighborhood)
